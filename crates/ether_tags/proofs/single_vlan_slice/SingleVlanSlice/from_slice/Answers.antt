use Rattle.std.proofs.Common.{refl, arith, sym, subst}
use Rattle.ether_base.specs.Formats.Kind as kinds
use Rattle.ether_base.specs.Formats.Refusal as rows
use Rattle.ether_base.specs.Formats.RefusedLen.{IsRefusedLen}
use Rattle.ether_base.proofs.VlanFields.{vlan_means}
use Rattle.ether_tags.proofs.single_vlan_slice.SingleVlanSlice.from_slice.Goals as goal

pub returns-then-slice-lt-LEN-clause-refused : goal.returns-then-slice-lt-LEN-clause-refused
returns-then-slice-lt-LEN-clause-refused c =
    subst (IsRefusedLen c.args.slice.now kinds.Vlan) (sym c.too_short.ensures)
    (record { row = rows.vlan c.if-slice-lt-LEN.true; start = refl })

pub returns-clause-value : goal.returns-clause-value
returns-clause-value c = vlan_means c.args.slice.now (λ i. omega (arith, c.type_inv.slice i)) (omega arith)
