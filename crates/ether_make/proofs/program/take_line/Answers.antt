use Rattle.std.proofs.Common.{◌∙◌, sym, refl}
use Rattle.std.proofs.KnownBytes.{Appends-nil}
use Rattle.ether_make.specs.Program.{blank}
use Rattle.ether_make.specs.Serial.{progress_view}
use Rattle.ether_make.proofs.ProgramLemmas.{line-taken, series-fits}
use Rattle.ether_make.proofs.program.take_line.Goals as goal

pub returns-then-is_blank-clause-taken : goal.returns-then-is_blank-clause-taken
returns-then-is_blank-clause-taken g c = blank _ (sym c.is_blank.ensures ∙ c.if-is_blank.true) (Appends-nil _)

pub returns-in-Err-clause-fault : goal.returns-in-Err-clause-fault
returns-in-Err-clause-fault g c = record {
  line = refl;
  same = refl;
  some = sym c.is_blank.ensures ∙ c.if-is_blank.false;
  means = c.in-Err.ensures;
  unwritten = Appends-nil _;
}

pub write_series-requires-clause-fits : goal.write_series-requires-clause-fits
write_series-requires-clause-fits g c =
    series-fits c.args.settings.now (progress_view c.args.progress.now) c.args.text.now c.in-Ok.made.0 c.in-Ok.made.1
    c.in-Ok.ensures

pub returns-in-Ok-write_series-clause-taken : goal.returns-in-Ok-write_series-clause-taken
returns-in-Ok-write_series-clause-taken g c =
    line-taken c.args.settings.now c.args.text.now _ _ (progress_view c.args.progress.now) _ c.in-Ok.made.1
    c.in-Ok.made.0 (sym c.is_blank.ensures ∙ c.if-is_blank.false) c.in-Ok.ensures c.in-Ok-write_series.ensures.grows
    c.in-Ok-write_series.ensures.progress
