use Rattle.std.proofs.Common.{◌-◌, length}
use Rattle.ether_filter.proofs.WordsLemmas.{Grows}
use Rattle.ether_filter.proofs.text_words.word_end.Given as goal

abbrev pub invariant-loop-end : goal.invariant-loop-end
invariant-loop-end l = Grows l.text l.start l.end

abbrev pub decreases-loop-end : goal.decreases-loop-end
decreases-loop-end l = length l.text - l.end
