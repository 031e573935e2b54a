use Rattle.std.proofs.Common.{refl, arith, sym, subst}
use Rattle.ether_base.specs.Formats.Kind as kinds
use Rattle.ether_base.specs.Formats.Refusal as rows
use Rattle.ether_base.specs.Formats.RefusedLen.{IsRefusedLen}
use Rattle.ether_base.proofs.Ethernet2Fields.{ethernet2_means}
use Rattle.ether_tags.proofs.ethernet2_slice.Ethernet2Slice.from_slice_without_fcs.Goals as goal

pub returns-then-slice-lt-LEN-clause-refused : goal.returns-then-slice-lt-LEN-clause-refused
returns-then-slice-lt-LEN-clause-refused c =
    subst (IsRefusedLen c.args.slice.now kinds.Ethernet2) (sym c.too_short.ensures)
    (record { row = rows.ethernet2 c.if-slice-lt-LEN.true; start = refl })

pub returns-clause-value : goal.returns-clause-value
returns-clause-value c = ethernet2_means c.args.slice.now (λ i. omega (arith, c.type_inv.slice i)) (omega arith)
