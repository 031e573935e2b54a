use Rattle.std.proofs.Common.{ℕ, List, sym, subst}
use Rattle.ether_text.specs.Tool.About.{Tells, help, version}
use Rattle.ether_text.specs.declared.tool.about.TheConstants.{HELP, VERSION}
use Rattle.ether_text.proofs.tool.ModeLemmas.{only_word}
use Rattle.ether_text.proofs.tool.about.about.Goals as goal

pub returns-in-text-clause-some : goal.returns-in-text-clause-some
returns-in-text-clause-some c =
    subst (λ (words : List (List ℕ)). Tells words HELP.now)
    (sym (only_word c.args.words.now _ _ c.in-text.len_at_least c.in-text.len_below c.in-text.is-text)) help

pub returns-in-text-2-clause-some : goal.returns-in-text-2-clause-some
returns-in-text-2-clause-some c =
    subst (λ (words : List (List ℕ)). Tells words VERSION.now)
    (sym (only_word c.args.words.now _ _ c.in-text-2.len_at_least c.in-text-2.len_below c.in-text-2.is-text)) version
