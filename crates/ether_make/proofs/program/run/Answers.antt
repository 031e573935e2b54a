use Rattle.std.proofs.Common.{subst}
use Rattle.ether_make.specs.Lines.{Progress}
use Rattle.ether_make.specs.Program.{AfterFault, Continues, HasMade}
use Rattle.ether_make.specs.Serial.{progress_view}
use Rattle.ether_make.proofs.ProgramLemmas.{fault-ends, made-ends}
use Rattle.ether_make.proofs.program.run.Goals as goal

pub returns-in-Ok-write_end-clause-made : goal.returns-in-Ok-write_end-clause-made
returns-in-Ok-write_end-clause-made g c =
    made-ends c.args.settings.now (progress_view c.make_lines.new.progress) _ _ _ _ _
    (subst (λ (p : Progress). HasMade c.args.settings.now p
    (Continues c.args.settings.now p (progress_view c.make_lines.new.progress)) (g.R.Read.remaining c.args.reader.now)
    (g.R.Read.remaining c.make_lines.new.reader) (g.W.Write.contents c.args.writer.now)
    (g.W.Write.contents c.make_lines.new.writer)) c.new-progress.ensures c.in-Ok.ensures.made)
    c.in-Ok-write_end.ensures

pub returns-in-Ok-write_end-2 : goal.returns-in-Ok-write_end-2
returns-in-Ok-write_end-2 g c = record {
  made = tt;
  fault =
      fault-ends c.args.settings.now (progress_view c.make_lines.new.progress) _ _ _ _ _ c.in-Err.fault
      (subst (λ (p : Progress). AfterFault c.args.settings.now p
      (Continues c.args.settings.now p (progress_view c.make_lines.new.progress))
      (g.R.Read.remaining c.args.reader.now)
      (g.R.Read.remaining c.make_lines.new.reader) (g.W.Write.contents c.args.writer.now)
      (g.W.Write.contents c.make_lines.new.writer) c.in-Err.fault) c.new-progress.ensures c.in-Err.ensures.fault)
      c.in-Ok-write_end-2.ensures;
}
