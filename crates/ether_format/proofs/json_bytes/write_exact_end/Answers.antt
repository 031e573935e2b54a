use Rattle.std.proofs.Common.{[], ◌∷◌, ◌++◌, ap, ◌∙◌}
use Rattle.std.specs.Prelude.{drop}
use Rattle.ether_output.proofs.OutputBufferLemmas.{Takes-then, Takes-same}
use Rattle.ether_format.specs.JsonBytes.{bytes_member}
use Rattle.ether_format.specs.JsonBytesLines.{bytes_text}
use Rattle.ether_format.specs.Lines.{json_end_front}
use Rattle.ether_format.proofs.JsonBytesLemmas.{bytes_last}
use Rattle.ether_format.proofs.JsonLemmas.{end_more}
use Rattle.ether_format.proofs.json_bytes.write_exact_end.Goals as goal

pub returns : goal.returns
returns g c =
    let packet = c.args.packet.now in
    let end = c.args.end.now in
    Takes-same
    (ap (λ l. json_end_front end ++ l)
    (ap bytes_text (c.bytes_from.ensures ∙ ap (λ n. drop n packet) c.headers_end.ensures) ∙ bytes_last _)
    ∙ end_more end (bytes_member packet end ∷ []))
    (Takes-then c.write_end_front.ensures c.write_bytes.ensures)
