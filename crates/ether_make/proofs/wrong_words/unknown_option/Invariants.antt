use Rattle.std.proofs.Common.{◌≡◌, map, string_bytes, length}
use Rattle.ether_make.specs.WrongWords.{unknown_option}
use Rattle.ether_make.proofs.wrong_words.unknown_option.Given as goal

abbrev pub invariant-loop-rest : goal.invariant-loop-rest
invariant-loop-rest l = unknown_option (map string_bytes l.fn.words) ≡ unknown_option (map string_bytes l.rest)

abbrev pub decreases-loop-rest : goal.decreases-loop-rest
decreases-loop-rest l = length l.rest
