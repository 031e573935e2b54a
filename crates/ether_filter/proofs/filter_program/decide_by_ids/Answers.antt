use Rattle.std.proofs.Common.{ℕ, arith}
use Rattle.std.proofs.lemmas.List.{length-replicate}
use Rattle.ether_filter.proofs.TagMarksLemmas.{no_bits}
use Rattle.ether_filter.proofs.filter_program.decide_by_ids.Goals as goal

pub returns-clause-says : goal.returns-clause-says
returns-clause-says c x p hs e walk d =
    let are = c.find_certain-certain.ensures.certain c.new-seen.ensures no_bits
    (λ more. omega (arith, length-replicate {A = ℕ} 64 0)) in
    c.decide_all.ensures.says x p hs e walk are d
