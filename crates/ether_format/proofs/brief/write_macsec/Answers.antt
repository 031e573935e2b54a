use Rattle.std.proofs.Common.{ap, ◌∙◌, ◌++◌}
use Rattle.std.specs.Prelude.{codes}
use Rattle.std.specs.Fmt.{decimal}
use Rattle.ether_output.proofs.OutputBufferLemmas.{Takes-then, Takes-same}
use Rattle.ether_format.specs.Brief.{sci_text}
use Rattle.ether_format.proofs.brief.write_macsec.Goals as goal

pub returns : goal.returns
returns g c =
    let association = Takes-same (ap (λ n. codes " macsec an " ++ decimal n)
    (c.from.ensures ∙ c.value.ensures.value ∙ c.an.ensures)) c.write_number.ensures in
    let packet = Takes-same (ap (λ n. codes " pn " ++ decimal n) c.packet_nr.ensures) c.write_number-2.ensures in
    let sci = Takes-same (ap sci_text c.sci.ensures) c.write_sci.ensures in
    Takes-then association (Takes-then packet (Takes-then sci c.write_macsec_bits.ensures))
