use Rattle.std.proofs.Common.{refl, arith, sym, subst}
use Rattle.ether_base.specs.Formats.Kind as kinds
use Rattle.ether_base.specs.Formats.Refusal as rows
use Rattle.ether_base.specs.Formats.RefusedLen.{IsRefusedLen}
use Rattle.ether_base.proofs.Ethernet2Fields.{ethernet2_read}
use Rattle.ether_tags.proofs.ethernet2_slice.Ethernet2Slice.from_slice_with_crc32_fcs.Goals as goal

pub returns-then-slice-clause-refused : goal.returns-then-slice-clause-refused
returns-then-slice-clause-refused c =
    subst (IsRefusedLen c.args.slice.now kinds.Ethernet2Fcs) (sym c.too_short.ensures)
    (record { row = rows.ethernet2_fcs c.if-slice.true; start = refl })

pub returns-clause-value : goal.returns-clause-value
returns-clause-value c = record {
  whole = omega arith;
  spells = ethernet2_read c.args.slice.now (λ i. omega (arith, c.type_inv.slice i)) (omega arith);
}
