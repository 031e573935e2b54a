use Rattle.std.proofs.Common.{drop, map}
use Rattle.ether_make.specs.Serial.{progress_view}
use Rattle.ether_make.proofs.FileLemmas.{Done}
use Rattle.ether_make.proofs.input_files.make_files.Given as goal

abbrev pub invariant-loop-name : goal.invariant-loop-name
invariant-loop-name g l =
    Done (g.I.Inputs.has l.inputs) l.settings (progress_view l.fn.progress) (map (λ s. s.now) l.names)
    (map (λ s. s.now) (drop l.name-index l.names)) (g.R.Read.remaining l.fn.reader) (g.R.Read.remaining l.reader)
    (g.W.Write.contents l.fn.writer) (g.W.Write.contents l.writer) (progress_view l.progress)
