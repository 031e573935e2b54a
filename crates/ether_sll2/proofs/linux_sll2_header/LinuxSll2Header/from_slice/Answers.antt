use Rattle.std.proofs.Common.{ap, ◌∙◌, arith}
use Rattle.ether_sll2.specs.LinuxSll2.{LinuxSll2Value, protocol_on, protocol_of_header}
use Rattle.ether_sll2.proofs.LinuxSll2Fields.{linux_sll2_of_front}
use Rattle.ether_sll2.proofs.linux_sll2_header.LinuxSll2Header.from_slice.Goals as goal

pub returns-clause-protocol : goal.returns-clause-protocol
returns-clause-protocol c =
    c.to_header-header.ensures.protocol
    ∙ ap protocol_of_header c.in_ok-from_slice.ensures.bytes
    ∙ ap (λ (s : LinuxSll2Value). protocol_on s.hardware_type s.protocol)
    (linux_sll2_of_front c.args.slice.now 20 (omega arith))
