use Rattle.std.proofs.Common.{refl, rules}
use Rattle.ether_capture.specs.World.{streams}
use Rattle.ether_capture.proofs.several_files.run_files.Goals as goal

pub returns-clause-listed : goal.returns-clause-listed
returns-clause-listed g c = λ files. (
  c.in_ok-tally.tally,
  streams (g.R.Source.remaining c.read_files.new.reader) (g.W.Sink.contents c.read_files.new.writer)
      (g.M.Sink.contents c.read_files.new.messages) files,
  c.in_ok-tally.ensures.ok files,
  search rules,
  refl,
  refl,
)
