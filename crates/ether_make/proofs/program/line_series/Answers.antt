use Rattle.std.proofs.Common.{ap, sym, ◌∙◌}
use Rattle.ether_make.specs.FrameViews.{template_view}
use Rattle.ether_make.specs.Lines.{is_timely_at, late, many}
use Rattle.ether_make.specs.LineViews.{fault_view}
use Rattle.ether_make.specs.Serial.{progress_view}
use Rattle.ether_make.proofs.ProgramLemmas.{told-late, told-refused}
use Rattle.ether_make.proofs.program.line_series.Goals as goal

pub returns-then-not-is_counted : goal.returns-then-not-is_counted
returns-then-not-is_counted c =
    told-late c.args.settings.now (progress_view c.args.progress.now) c.args.text.now _
    (fault_view c.owned_refusal.result)
    (many (template_view c.in-Ok.template) c.in-Ok.ensures (sym c.is_counted.ensures ∙ c.if-not-is_counted.true))
    c.owned_refusal.ensures

pub returns-then-not-is_timely : goal.returns-then-not-is_timely
returns-then-not-is_timely c =
    told-late c.args.settings.now (progress_view c.args.progress.now) c.args.text.now _
    (fault_view c.owned_refusal-then-not-is_timely.result)
    (late (template_view c.in-Ok.template) c.in-Ok.ensures (sym c.is_counted.ensures ∙ c.if-not-is_counted.false)
    (ap (is_timely_at c.args.settings.now.rate c.args.progress.now.pace c.in-Ok.template.frame.time)
    (sym c.unwrap_or-count.ensures) ∙ sym c.is_timely.ensures ∙ c.if-not-is_timely.true))
    c.owned_refusal-then-not-is_timely.ensures

pub returns-in-Err : goal.returns-in-Err
returns-in-Err c =
    told-refused c.args.settings.now (progress_view c.args.progress.now) c.args.text.now
    (fault_view c.in-Err.fault) c.in-Err.ensures
