use Rattle.std.proofs.Common.{rules}
use Rattle.ether_text.specs.Tool.Command.{plain}
use Rattle.ether_text.proofs.tool.CommandLemmas.{names_limited, names_no_mode, names_no_limit, names_nothing, names_no_command}
use Rattle.ether_text.proofs.tool.command.command_of.Goals as goal
use Rattle.ether_text.proofs.tool.command.command_of.Goals.{in_default-via-then-words-lt2, in_default-via-else-words-lt2+then-words-lt3+in_default, in_default-via-else-words-lt2+else-words-lt3+in_default}

pub returns-in_err-named_mode-in-limit-2-clause-err : goal.returns-in_err-named_mode-in-limit-2-clause-err
returns-in_err-named_mode-in-limit-2-clause-err c =
    search (rules, names_no_mode c.args.words.now c.in-limit-2.len_at_least c.in_err-named_mode-in-limit-2.ensures.err)

pub returns-in_err-limit_of-in-limit-2-clause-err : goal.returns-in_err-limit_of-in-limit-2-clause-err
returns-in_err-limit_of-in-limit-2-clause-err c =
    search (rules, names_no_limit c.args.words.now _ c.in-limit-2.len_at_least c.in_err-limit_of-in-limit-2.ensures.err)

pub returns-in_err-named_mode-in_default-clause-err : goal.returns-in_err-named_mode-in_default-clause-err
returns-in_err-named_mode-in_default-clause-err c =
    elim c.in_default.branch [
      | in_default-via-then-words-lt2 w ↦ search (rules, names_nothing)
      | in_default-via-else-words-lt2+then-words-lt3+in_default w ↦ search (rules, names_nothing)
      | in_default-via-else-words-lt2+else-words-lt3+in_default w ↦ search (rules, names_no_command)
    ]

pub returns-in_ok-limit_of-in-limit-2-clause-ok : goal.returns-in_ok-limit_of-in-limit-2-clause-ok
returns-in_ok-limit_of-in-limit-2-clause-ok c =
    names_limited c.args.words.now _ _ _ _ c.in-limit-2.len_at_least c.in-limit-2.is-limit
    c.in_ok-named_mode-in-limit-2.ensures.ok c.in_ok-limit_of-in-limit-2.ensures.ok

pub returns-in_ok-named_mode-in_default-clause-ok : goal.returns-in_ok-named_mode-in_default-clause-ok
returns-in_ok-named_mode-in_default-clause-ok c = plain _ _ c.in_ok-named_mode-in_default.ensures.ok
