use Rattle.std.proofs.Common.{ℕ, ◌++◌, ap, ◌∙◌}
use Rattle.std.specs.Prelude.{codes}
use Rattle.std.specs.Fmt.{decimal}
use Rattle.etherparse.specs.NumberText.{hex_number}
use Rattle.ether_text.specs.Lines.{arp_text}
use Rattle.ether_output.proofs.OutputBufferLemmas.{Takes-then, Takes-same}
use Rattle.ether_text.proofs.write_lines.write_arp.Goals as goal

pub returns : goal.returns
unfolding arp_text
returns g c =
    let hardware =
    Takes-same (ap (λ (n : ℕ). codes " hw " ++ decimal n) (c.from.ensures ∙ c.hw_addr_type.ensures))
    c.write_number-2.ensures in
    let protocol = Takes-same (c.hex_type.ensures ∙ ap hex_number c.proto_addr_type.ensures) c.append_array.ensures in
    let hardware_size =
    Takes-same (ap (λ (n : ℕ). codes " hlen " ++ decimal n) (c.from-2.ensures ∙ c.hw_addr_size.ensures.sender))
    c.write_number-3.ensures in
    let protocol_size =
    Takes-same
    (ap (λ (n : ℕ). codes " plen " ++ decimal n) (c.from-3.ensures ∙ c.proto_addr_size.ensures.sender))
    c.write_number-4.ensures in
    let operation =
    Takes-same (ap (λ (n : ℕ). codes " op " ++ decimal n) (c.from-4.ensures ∙ c.operation.ensures))
    c.write_number-5.ensures in
    Takes-then c.write_number.ensures (Takes-then hardware (Takes-then c.append.ensures (Takes-then protocol
    (Takes-then hardware_size (Takes-then protocol_size operation)))))
