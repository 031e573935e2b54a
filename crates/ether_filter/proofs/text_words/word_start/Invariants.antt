use Rattle.std.proofs.Common.{◌≡◌, ◌-◌, ◌≤◌, length}
use Rattle.ether_filter.specs.Words.{words_from}
use Rattle.ether_filter.proofs.text_words.word_start.Given as goal

abbrev pub invariant-loop-start : goal.invariant-loop-start
invariant-loop-start l = (l.from ≤ l.start) × (l.start ≤ length l.text)
    × (words_from l.text l.from ≡ words_from l.text l.start)

abbrev pub decreases-loop-start : goal.decreases-loop-start
decreases-loop-start l = length l.text - l.start
