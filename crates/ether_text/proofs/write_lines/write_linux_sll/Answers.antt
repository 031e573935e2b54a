use Rattle.std.proofs.Common.{ℕ, ◌++◌, ap, ◌∙◌}
use Rattle.std.specs.Prelude.{codes}
use Rattle.std.specs.Fmt.{decimal}
use Rattle.etherparse.specs.NumberText.{hex_number}
use Rattle.ether_output.specs.HexText.{hex_text}
use Rattle.ether_text.specs.Lines.{linux_sll_text}
use Rattle.ether_output.proofs.OutputBufferLemmas.{Takes-then, Takes-same}
use Rattle.ether_text.proofs.write_lines.write_linux_sll.Goals as goal

pub returns : goal.returns
unfolding linux_sll_text
returns g c =
    let packet =
    Takes-same
    (ap (λ (n : ℕ). codes " packet " ++ decimal n) (c.from.ensures ∙ c.packet_type_number.ensures))
    c.write_number-2.ensures in
    let hardware =
    Takes-same (ap (λ (n : ℕ). codes " hw " ++ decimal n) (c.from-2.ensures ∙ c.arp_hardware_type.ensures))
    c.write_number-3.ensures in
    let len =
    Takes-same
    (ap (λ (n : ℕ). codes " alen " ++ decimal n) (c.from-3.ensures ∙ c.sender_address_valid_length.ensures))
    c.write_number-4.ensures in
    let address = Takes-same (c.hex_long.ensures ∙ ap hex_text c.sender_address_full.ensures) c.append-2.ensures in
    let protocol =
    Takes-same
    (c.hex_type.ensures ∙ ap hex_number c.protocol_number.ensures)
    c.append-4.ensures in
    Takes-then c.write_number.ensures (Takes-then packet (Takes-then hardware (Takes-then len
    (Takes-then c.append.ensures (Takes-then address (Takes-then c.append-3.ensures protocol))))))
