use Rattle.std.proofs.Common.{◌≡◌, length, map}
use Rattle.ether_make.specs.OptionTable.{all_options, option_view}
use Rattle.ether_make.specs.WrongWords.{option_lettered}
use Rattle.ether_make.proofs.wrong_words.letter_need.Given as goal

abbrev pub invariant-loop-rows : goal.invariant-loop-rows
invariant-loop-rows l = option_lettered l.fn.letter all_options ≡ option_lettered l.fn.letter (map option_view l.rows)

abbrev pub decreases-loop-rows : goal.decreases-loop-rows
decreases-loop-rows l = length l.rows
