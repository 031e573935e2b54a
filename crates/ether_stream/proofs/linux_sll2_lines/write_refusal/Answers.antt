use Rattle.std.proofs.Common.{ℕ, ◌++◌, ap}
use Rattle.std.specs.Prelude.{codes}
use Rattle.std.specs.Fmt.{decimal}
use Rattle.ether_output.proofs.OutputBufferLemmas.{Takes-then, Takes-same}
use Rattle.ether_stream.specs.LinuxSll2Lines.{linux_sll2_fault_text}
use Rattle.ether_stream.proofs.linux_sll2_lines.write_refusal.Goals as goal

pub returns-in-Len : goal.returns-in-Len
unfolding linux_sll2_fault_text
returns-in-Len g c =
    rw c.in-Len.is
    (Takes-then c.write_number.ensures
    (Takes-then c.write_number-in-Len.ensures (Takes-then c.write_number-in-Len-2.ensures c.append.ensures)))

pub returns-in-PacketType : goal.returns-in-PacketType
unfolding linux_sll2_fault_text
returns-in-PacketType g c =
    rw c.in-PacketType.is
    (Takes-then c.write_number.ensures
    (Takes-same (ap (λ (n : ℕ). codes " open content sll_packet_type " ++ decimal n) c.from.ensures)
    c.write_number-in-PacketType.ensures))
