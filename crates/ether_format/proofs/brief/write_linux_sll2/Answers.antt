use Rattle.std.proofs.Common.{ap, ◌++◌, ◌∙◌, take}
use Rattle.std.specs.Prelude.{codes}
use Rattle.std.specs.Fmt.{decimal}
use Rattle.ether_output.proofs.OutputBufferLemmas.{Takes-then, Takes-same}
use Rattle.ether_format.specs.Brief.{cooked_text}
use Rattle.ether_format.proofs.brief.write_linux_sll2.Goals as goal

pub returns : goal.returns
returns g c =
    let interface = Takes-same (ap (λ n. codes " if " ++ decimal n) c.interface_index.ensures) c.write_number.ensures in
    let len = c.from-len.ensures ∙ c.sender_address_valid_length.ensures in
    let address = c.first_of.ensures ∙ (λ i. take (len i) (c.sender_address_full-address.ensures i)) in
    let sender =
    Takes-same (λ i. cooked_text ((c.from-packet_type.ensures ∙ c.packet_type_number.ensures) i) (address i))
    c.write_sender.ensures in
    Takes-then interface sender
