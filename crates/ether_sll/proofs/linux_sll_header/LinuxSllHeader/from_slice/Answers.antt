use Rattle.std.proofs.Common.{ap, ◌∙◌, arith}
use Rattle.ether_base.specs.Formats.LinuxSll.{LinuxSllValue}
use Rattle.ether_base.specs.Formats.LinuxSllProtocolType.{protocol_of}
use Rattle.ether_base.proofs.LinuxSllFields.{linux_sll_of_front}
use Rattle.ether_sll.specs.LinuxSll.{protocol_type_of_header}
use Rattle.ether_sll.proofs.linux_sll_header.LinuxSllHeader.from_slice.Goals as goal

pub returns-clause-protocol : goal.returns-clause-protocol
returns-clause-protocol c =
    c.to_header-header.ensures.protocol ∙ ap protocol_type_of_header c.in_ok-from_slice.ensures.bytes
    ∙ ap (λ (s : LinuxSllValue). protocol_of s.hardware_type s.protocol)
    (linux_sll_of_front c.args.slice.now 16 (omega arith))
