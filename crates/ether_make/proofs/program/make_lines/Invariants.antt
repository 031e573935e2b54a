use Rattle.ether_make.specs.Serial.{progress_view}
use Rattle.ether_make.proofs.ProgramLemmas.{Doing}
use Rattle.ether_make.proofs.program.make_lines.Given as goal

abbrev pub invariant-loop-number : goal.invariant-loop-number
invariant-loop-number g l =
    Doing l.settings (progress_view l.fn.progress) (g.R.Read.remaining l.fn.reader) (g.R.Read.remaining l.reader)
    (g.W.Write.contents l.fn.writer)
    (g.W.Write.contents l.writer) l.number (progress_view l.progress)
