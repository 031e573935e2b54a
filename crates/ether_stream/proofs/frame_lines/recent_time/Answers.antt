use Rattle.ether_output.specs.Decimals.{eight_digits}
use Rattle.ether_format.specs.Spelling.{nine_digits}
use Rattle.ether_stream.specs.FrameLines.{time_text}
use Rattle.ether_stream.proofs.FrameLinesLemmas.{recent_time}
use Rattle.ether_stream.proofs.frame_lines.recent_time.Goals as goal

pub returns : goal.returns
unfolding time_text nine_digits eight_digits
returns c =
    rw (c.eight_digits-h.ensures, c.eight_digits-s.ensures, c.nine_digits-n.ensures)
    (recent_time c.args.time.seconds c.args.time.nanoseconds c.requires.least c.requires.most)
