use Rattle.std.proofs.Common.{refl, sym, subst}
use Rattle.ether_base.specs.Formats.Kind as kinds
use Rattle.ether_base.specs.Formats.Refusal as rows
use Rattle.ether_base.specs.Formats.RefusedLen.{IsRefusedLen}
use Rattle.ether_sll.proofs.linux_sll_fields.require_header.Goals as goal

pub returns-then-slice-lt-LEN-clause-refused : goal.returns-then-slice-lt-LEN-clause-refused
returns-then-slice-lt-LEN-clause-refused c =
    subst (IsRefusedLen c.args.slice.now kinds.LinuxSll) (sym c.too_short.ensures)
    (record { row = rows.linux_sll c.if-slice-lt-LEN.true; start = refl })
