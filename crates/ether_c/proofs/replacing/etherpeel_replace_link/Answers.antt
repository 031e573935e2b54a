use Rattle.std.proofs.Common.{rules, Option, subst}
use Rattle.std.specs.Prelude.{IfSome}
use Rattle.ether_peel.specs.declared.start.Start.{Start}
use Rattle.ether_c.specs.Replacing.{GivesReplaceLink, passed}
use Rattle.ether_c.proofs.replacing.etherpeel_replace_link.Goals as goal

pub returns-in-Ok-clause-given : goal.returns-in-Ok-clause-given
returns-in-Ok-clause-given c =
    let replaced = c.replace_link.ensures in
    subst (λ (o : Option Start). IfSome o (λ s. GivesReplaceLink s c.args.header.now
    c.args.frame.now c.replace_link.new.frame c.args.error.now c.answer.new.error c.answer.result)) c.in-Some.ensures
    (passed c.in-Ok.link c.in-Ok.ensures.link record {
      replaced = c.replace_link.result;
      ok = replaced.ok;
      refused = replaced.refused;
      kept = search (rules, replaced.kept);
      kept_error = c.answer.ensures.kept;
      given = c.answer.ensures.error;
      status_done = c.answer.ensures.done;
      status_error = c.answer.ensures.status;
    })
