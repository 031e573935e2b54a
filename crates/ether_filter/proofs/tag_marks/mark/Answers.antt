use Rattle.std.proofs.Common.{arith}
use Rattle.ether_filter.proofs.TagMarksLemmas.{bit_set}
use Rattle.ether_filter.proofs.tag_marks.mark.Goals as goal

pub returns-then-at-words-clause-set : goal.returns-then-at-words-clause-set
returns-then-at-words-clause-set c inside n =
    bit_set c.args.words.now c.args.id c.from-at.result c.from-at.ensures (omega (arith, c.from-at.ensures, inside)) n
