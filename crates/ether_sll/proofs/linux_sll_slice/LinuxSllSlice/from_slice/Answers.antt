use Rattle.std.proofs.Common.{arith}
use Rattle.ether_base.proofs.LinuxSllFields.{linux_sll_means}
use Rattle.ether_sll.proofs.LinuxSllFields.{holds_accepts}
use Rattle.ether_sll.proofs.linux_sll_slice.LinuxSllSlice.from_slice.Goals as goal

pub returns-clause-accepted : goal.returns-clause-accepted
returns-clause-accepted c =
    holds_accepts c.args.slice.now (λ i. omega (arith, c.type_inv.slice i)) c.in_ok-require_header.ensures.holds

pub returns-clause-value : goal.returns-clause-value
returns-clause-value c =
    linux_sll_means c.args.slice.now (λ i. omega (arith, c.type_inv.slice i)) c.in_ok-require_header.ensures.holds.0
