use Rattle.std.proofs.Common.{◌∙◌}
use Rattle.ether_output.proofs.OutputBufferLemmas.{Takes-then, Takes-same}
use Rattle.ether_text.proofs.write_lines.write_len_error.Goals as goal

pub returns : goal.returns
returns g c =
    let source = Takes-same (c.as_bytes.ensures.value ∙ c.source_of.ensures) c.append-4.ensures in
    Takes-then c.append.ensures (Takes-then c.write_decimal.ensures (Takes-then c.append-2.ensures
    (Takes-then c.write_decimal-2.ensures (Takes-then c.append-3.ensures source))))
