use Rattle.std.proofs.Common.{refl}
use Rattle.ether_format.proofs.ParsingLemmas.{if_none}
use Rattle.ether_format.proofs.SplitLemmas.{no_split}
use Rattle.ether_stream.proofs.VlanOptionLemmas.{no_numbers}
use Rattle.ether_stream.proofs.vlan_options.pair_of.Goals as goal

pub returns-in_err-before-clause-none : goal.returns-in_err-before-clause-none
returns-in_err-before-clause-none c =
    if_none c.from_residual.result _
    (λ m n pair. no_split 58 refl c.args.text.now pair.before pair.after c.in_err-before.ensures.none pair.split)

pub returns-in_err-first-clause-none : goal.returns-in_err-first-clause-none
returns-in_err-first-clause-none c =
    if_none c.from_residual-in_err-first.result _
    (no_numbers c.args.text.now c.in_ok-before.before.now c.in_ok-before.after.now c.in_ok-before.ensures.some
    (λ m n first second. c.in_err-first.ensures.none m first))

pub returns-in_err-second-clause-none : goal.returns-in_err-second-clause-none
returns-in_err-second-clause-none c =
    if_none c.from_residual-in_err-second.result _
    (no_numbers c.args.text.now c.in_ok-before.before.now c.in_ok-before.after.now c.in_ok-before.ensures.some
    (λ m n first second. c.in_err-second.ensures.none n second))
