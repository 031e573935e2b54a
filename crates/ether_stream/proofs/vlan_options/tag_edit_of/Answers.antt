use Rattle.std.proofs.Common.{rules}
use Rattle.ether_format.proofs.ParsingLemmas.{if_none}
use Rattle.ether_stream.proofs.VlanOptionLemmas.{no_pair, none_then, some_then, is_push, is_set, no_push, no_set}
use Rattle.ether_stream.proofs.vlan_options.tag_edit_of.Goals as goal

pub returns-in_err-first-clause-none : goal.returns-in_err-first-clause-none
returns-in_err-first-clause-none c =
    if_none c.from_residual.result _ (no_pair c.args.kind c.args.text.now c.in_err-first.ensures.none)

pub returns-in-Push-clause-some : goal.returns-in-Push-clause-some
returns-in-Push-clause-some c = search (rules, some_then, is_push)

pub returns-in-Push-clause-none : goal.returns-in-Push-clause-none
returns-in-Push-clause-none c = search (rules, none_then, no_push)

pub returns-in-Set-clause-some : goal.returns-in-Set-clause-some
returns-in-Set-clause-some c = search (rules, some_then, is_set)

pub returns-in-Set-clause-none : goal.returns-in-Set-clause-none
returns-in-Set-clause-none c = search (rules, none_then, no_set)
