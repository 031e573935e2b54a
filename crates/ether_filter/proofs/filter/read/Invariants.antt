use Rattle.std.proofs.Common.{◌≡◌, ◌-◌, ◌≤◌, length}
use Rattle.ether_filter.specs.declared.filter.TheConstants.{MAX_WORDS}
use Rattle.ether_filter.specs.Words.{words_from}
use Rattle.ether_filter.specs.ExpressionReading.{state_of, read_from, read_text, size_of}
use Rattle.ether_filter.proofs.filter.read.Given as goal

abbrev pub invariant-loop-word : goal.invariant-loop-word
invariant-loop-word l =
    (l.at ≤ length l.text) × (size_of (state_of l.reading) ≤ l.count) × (l.count ≤ MAX_WORDS)
    × (read_text l.text ≡ read_from (state_of l.reading) l.count (words_from l.text l.at) (length l.text))

abbrev pub decreases-loop-word : goal.decreases-loop-word
decreases-loop-word l = length l.text - l.at
