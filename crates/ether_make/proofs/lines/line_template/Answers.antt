use Rattle.std.proofs.Common.{◌∙◌, sym}
use Rattle.serde_json.specs.View.{view}
use Rattle.ether_make.specs.Lines.{not_object}
use Rattle.ether_make.proofs.LineLemmas.{line-object, line-not_json}
use Rattle.ether_make.proofs.lines.line_template.Goals as goal

pub returns-in-Err : goal.returns-in-Err
returns-in-Err c = line-not_json c.args.link c.args.text.now c.in-Err.fault c.in-Err.ensures.fault

pub returns-then-not-is_object : goal.returns-then-not-is_object
returns-then-not-is_object c =
    not_object (view c.in-Ok.value) c.in-Ok.ensures.value (sym c.is_object.ensures ∙ c.if-not-is_object.true)
    c.in-Ok.ensures.unique

pub returns : goal.returns
returns c =
    line-object c.args.link c.args.text.now (view c.in-Ok.value) c.in-Ok.ensures.value
    (sym c.is_object.ensures ∙ c.if-not-is_object.false) c.in-Ok.ensures.unique c.object_template.result
    c.object_template.ensures
