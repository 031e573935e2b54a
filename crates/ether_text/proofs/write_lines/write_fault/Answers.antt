use Rattle.std.proofs.Common.{◌∙◌}
use Rattle.ether_text.specs.ViewLines.{fault_view_text}
use Rattle.ether_output.proofs.OutputBufferLemmas.{Takes-then, Takes-same}
use Rattle.ether_text.proofs.write_lines.write_fault.Goals as goal

pub returns : goal.returns
unfolding fault_view_text
returns g c =
    let mark = Takes-same (c.as_bytes.ensures.value ∙ c.mark_of.ensures) c.append-3.ensures in
    Takes-then
    (Takes-then c.append.ensures (Takes-then c.write_decimal.ensures (Takes-then c.append-2.ensures (Takes-then mark
    (Takes-then c.append-4.ensures c.write_error.ensures))))) c.append-5.ensures
