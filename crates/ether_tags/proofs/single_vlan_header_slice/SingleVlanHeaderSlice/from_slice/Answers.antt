use Rattle.std.proofs.Common.{refl, arith, sym, subst}
use Rattle.std.specs.Prelude.{slice_range}
use Rattle.ether_base.specs.Formats.Kind as kinds
use Rattle.ether_base.specs.Formats.Refusal as rows
use Rattle.ether_base.specs.Formats.RefusedLen.{IsRefusedLen}
use Rattle.ether_base.proofs.SubLists.{IsBytes-part, length-part}
use Rattle.ether_base.proofs.VlanFields.{vlan_whole}
use Rattle.ether_tags.proofs.single_vlan_header_slice.SingleVlanHeaderSlice.from_slice.Goals as goal

pub returns-then-slice-lt-LEN-clause-refused : goal.returns-then-slice-lt-LEN-clause-refused
returns-then-slice-lt-LEN-clause-refused c =
    subst (IsRefusedLen c.args.slice.now kinds.Vlan) (sym c.too_short.ensures)
    (record { row = rows.vlan c.if-slice-lt-LEN.true; start = refl })

pub returns-clause-value : goal.returns-clause-value
returns-clause-value c =
    let bytes = c.args.slice.now in
    let ok = IsBytes-part 0 4 bytes (λ i. omega (arith, c.type_inv.slice i)) in
    record { whole = omega arith; spells = vlan_whole (slice_range bytes 0 4) ok (length-part bytes 0 4 (omega arith)) }
