use Rattle.std.proofs.Common.{Bool, sym, ap}
use Rattle.ether_output.proofs.OutputBufferLemmas.{Takes-then, Takes-same}
use Rattle.ether_stream.specs.FrameLines.{totals_line_if}
use Rattle.ether_stream.proofs.frame_lines.write_totals.Goals as goal

pub returns : goal.returns
returns g c =
    Takes-same (ap (λ (b : Bool). totals_line_if b c.args.frames c.args.skipped c.args.undecided)
    (sym c.if-is_plain.false))
    (Takes-then c.write_told.ensures (Takes-then c.write_told-2.ensures
    (Takes-then c.write_undecided.ensures c.append.ensures)))
