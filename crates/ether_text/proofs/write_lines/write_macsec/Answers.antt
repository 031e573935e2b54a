use Rattle.std.proofs.Common.{ℕ, ◌++◌, ap, ◌∙◌}
use Rattle.std.specs.Prelude.{codes}
use Rattle.std.specs.Fmt.{decimal}
use Rattle.ether_text.specs.Lines.{macsec_text, payload_type_text, sci_text}
use Rattle.ether_output.proofs.OutputBufferLemmas.{Takes-then, Takes-same}
use Rattle.ether_text.proofs.write_lines.write_macsec.Goals as goal

pub returns : goal.returns
unfolding macsec_text
returns g c =
    let payload_type = Takes-same (ap payload_type_text c.ptype.ensures) c.write_payload_type.ensures in
    let end_station =
    Takes-same (ap (λ (n : ℕ). codes " es " ++ decimal n) (c.from.ensures ∙ c.endstation_id.ensures))
    c.write_number-2.ensures in
    let broadcast =
    Takes-same (ap (λ (n : ℕ). codes " scb " ++ decimal n) (c.from-2.ensures ∙ c.tci_scb.ensures))
    c.write_number-3.ensures in
    let association =
    Takes-same
    (ap (λ (n : ℕ). codes " an " ++ decimal n) (c.from-3.ensures ∙ c.value.ensures.value ∙ c.an.ensures))
    c.write_number-4.ensures in
    let short_len =
    Takes-same
    (ap (λ (n : ℕ). codes " sl " ++ decimal n)
    (c.from-4.ensures ∙ c.value-2.ensures.value ∙ c.short_len.ensures))
    c.write_number-5.ensures in
    let packet = Takes-same (ap (λ (n : ℕ). codes " pn " ++ decimal n) c.packet_nr.ensures) c.write_number-6.ensures in
    let sci = Takes-same (ap sci_text c.sci.ensures) c.write_sci.ensures in
    let mark = Takes-same (c.as_bytes.ensures.value ∙ c.mark_of.ensures) c.append-4.ensures in
    Takes-then c.write_number.ensures
    (Takes-then c.append.ensures (Takes-then payload_type (Takes-then end_station (Takes-then broadcast
    (Takes-then association (Takes-then short_len (Takes-then packet (Takes-then c.append-2.ensures (Takes-then sci
    (Takes-then c.write_number-7.ensures (Takes-then c.append-3.ensures mark)))))))))))
