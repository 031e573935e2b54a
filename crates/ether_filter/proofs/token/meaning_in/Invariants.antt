use Rattle.std.proofs.Common.{◌≡◌, drop}
use Rattle.std.specs.Prelude.{map}
use Rattle.ether_filter.specs.Tokens.{meaning_among}
use Rattle.ether_filter.proofs.token.meaning_in.Given as goal

abbrev pub invariant-loop-keyword : goal.invariant-loop-keyword
invariant-loop-keyword l =
    meaning_among (map (λ k. (k.spelling.now, k.token)) l.keywords) l.word
    ≡ meaning_among (map (λ k. (k.spelling.now, k.token)) (drop l.keyword-index l.keywords)) l.word
