use Rattle.std.proofs.Common.{◌≡◌, map, string_bytes, length}
use Rattle.ether_make.specs.WrongWords.{bare_option}
use Rattle.ether_make.proofs.wrong_words.bare_option.Given as goal

abbrev pub invariant-loop-rest : goal.invariant-loop-rest
invariant-loop-rest l = bare_option (map string_bytes l.fn.words) ≡ bare_option (map string_bytes l.rest)

abbrev pub decreases-loop-rest : goal.decreases-loop-rest
decreases-loop-rest l = length l.rest
