use Rattle.std.proofs.Common.{ap, ◌∙◌}
use Rattle.std.specs.Fmt.{decimal}
use Rattle.etherparse.specs.NumberText.{hex_number}
use Rattle.ether_text.specs.Lines.{vlan_text}
use Rattle.ether_output.proofs.OutputBufferLemmas.{Takes-then, Takes-same}
use Rattle.ether_text.proofs.write_lines.write_vlan.Goals as goal

pub returns : goal.returns
unfolding vlan_text
returns g c =
    let pcp =
    Takes-same (ap decimal (c.from.ensures ∙ c.value.ensures.value ∙ c.priority_code_point.ensures))
    c.write_decimal-2.ensures in
    let dei =
    Takes-same (ap decimal (c.from-2.ensures ∙ c.drop_eligible_indicator.ensures)) c.write_decimal-3.ensures in
    let vid =
    Takes-same (ap decimal (c.from-3.ensures ∙ c.value-2.ensures.value ∙ c.vlan_identifier.ensures))
    c.write_decimal-4.ensures in
    let ether_type = Takes-same (c.hex_type.ensures ∙ ap hex_number c.ether_type.ensures) c.append_array.ensures in
    Takes-then c.append.ensures (Takes-then c.write_decimal.ensures (Takes-then c.append-2.ensures (Takes-then pcp
    (Takes-then c.append-3.ensures (Takes-then dei (Takes-then c.append-4.ensures (Takes-then vid
    (Takes-then c.append-5.ensures ether_type))))))))
