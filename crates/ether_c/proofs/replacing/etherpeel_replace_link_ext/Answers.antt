use Rattle.std.proofs.Common.{rules, Option, subst}
use Rattle.std.specs.Prelude.{IfSome}
use Rattle.ether_peel.specs.declared.start.Start.{Start}
use Rattle.etherparse.specs.LinkExt.{ext_header_view}
use Rattle.ether_peel.specs.Walker.Start.{start_of}
use Rattle.ether_c.specs.Replacing.{GivesReplaceExt, passed}
use Rattle.ether_c.proofs.replacing.etherpeel_replace_link_ext.Goals as goal

pub returns-in-Ok-clause-given : goal.returns-in-Ok-clause-given
returns-in-Ok-clause-given c =
    let replaced = c.replace_link_ext.ensures in
    subst (λ (o : Option Start). IfSome o (λ s. GivesReplaceExt (start_of s) c.args.index c.args.header.now
    c.args.frame.now c.replace_link_ext.new.frame c.args.error.now c.answer.new.error c.answer.result))
    c.in-Some.ensures
    (passed (ext_header_view c.in-Ok.ext) c.in-Ok.ensures.ext record {
      replaced = c.replace_link_ext.result;
      ok = replaced.ok;
      refused = replaced.refused;
      kept = search (rules, replaced.kept);
      kept_error = c.answer.ensures.kept;
      given = c.answer.ensures.error;
      status_done = c.answer.ensures.done;
      status_error = c.answer.ensures.status;
    })
