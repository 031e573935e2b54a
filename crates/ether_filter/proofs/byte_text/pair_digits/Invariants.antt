use Rattle.std.proofs.Common.{◌≡◌, ◌≤◌, ◌-◌, ◌*◌, ◌++◌, drop, length}
use Rattle.std.specs.Prelude.{option_map}
use Rattle.ether_filter.specs.ByteTexts.{pair_digits_in}
use Rattle.ether_filter.proofs.byte_text.pair_digits.Given as goal

abbrev pub invariant-loop-at : goal.invariant-loop-at
invariant-loop-at l =
    (l.at ≤ length l.word) × (length l.digits.items * 3 ≡ l.at * 2)
    × (pair_digits_in l.word ≡ option_map (λ ds. l.digits.items ++ ds) (pair_digits_in (drop l.at l.word)))

abbrev pub decreases-loop-at : goal.decreases-loop-at
decreases-loop-at l = length l.word - l.at
