use Rattle.ether_output.proofs.OutputBufferLemmas.{Takes-then, Takes-same}
use Rattle.ether_stream.specs.FrameLines.{time_text}
use Rattle.ether_stream.proofs.frame_lines.write_other_time.Goals as goal

pub returns : goal.returns
unfolding time_text
returns g c =
    Takes-then c.append.ensures (Takes-then (Takes-then c.write_decimal.ensures (Takes-then c.append-2.ensures
    (Takes-same c.nine_digits.ensures c.append-3.ensures))) c.append-4.ensures)
