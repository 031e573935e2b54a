use Rattle.std.proofs.Common.{ℕ, sym, subst}
use Rattle.ether_sll2.specs.LinuxSll2.{linux_sll2_of}
use Rattle.ether_sll2.specs.Views.{refusal_view}
use Rattle.ether_c.specs.declared.ether_linux_sll2.EtherLinuxSll2.{EtherLinuxSll2}
use Rattle.ether_c.specs.CookedV2.{GivesLinuxSll2}
use Rattle.ether_c.specs.CookedV2 as cooked
use Rattle.ether_c.proofs.cooked_v2.etherpeel_linux_sll2.Goals as goal

pub returns-in-Ok : goal.returns-in-Ok
returns-in-Ok c =
    subst (λ (h : EtherLinuxSll2). GivesLinuxSll2 c.args.bytes.now h 0) (sym c.of.ensures)
    (cooked.read (linux_sll2_of c.in-Ok.packet) c.in-Ok.ensures.accepted c.in-Ok.ensures.value)

pub returns-in-Err : goal.returns-in-Err
returns-in-Err c =
    subst (λ (n : ℕ). GivesLinuxSll2 c.args.bytes.now c.of_refusal.result n) (sym c.refusal_status.ensures)
    (subst (λ (h : EtherLinuxSll2). GivesLinuxSll2 c.args.bytes.now h
    (cooked.linux_sll2_status (refusal_view c.in-Err.error)))
    (sym c.of_refusal.ensures)
    (cooked.refused (refusal_view c.in-Err.error) c.in-Err.ensures.refused))
