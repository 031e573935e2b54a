use Rattle.std.proofs.Common.{arith}
use Rattle.ether_sll2.proofs.LinuxSll2Fields.{linux_sll2_accepted, linux_sll2_begins}
use Rattle.ether_sll2.proofs.linux_sll2_slice.LinuxSll2Slice.from_slice.Goals as goal

pub returns-clause-accepted : goal.returns-clause-accepted
returns-clause-accepted c =
    let h = c.in_ok-require_header.ensures.holds in
    linux_sll2_accepted c.args.slice.now (λ i. omega (arith, c.type_inv.slice i)) h.0 h.1

pub returns-clause-value : goal.returns-clause-value
returns-clause-value c =
    linux_sll2_begins c.args.slice.now (λ i. omega (arith, c.type_inv.slice i)) c.in_ok-require_header.ensures.holds.0
