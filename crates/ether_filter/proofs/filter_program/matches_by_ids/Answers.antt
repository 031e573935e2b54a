use Rattle.std.proofs.Common.{ℕ, refl, arith}
use Rattle.std.proofs.lemmas.List.{length-replicate}
use Rattle.ether_filter.specs.Primitives.{walked}
use Rattle.ether_filter.proofs.TagMarksLemmas.{no_bits}
use Rattle.ether_filter.proofs.filter_program.matches_by_ids.Goals as goal

pub returns : goal.returns
returns c x p hs e walk =
    let shows = c.look.ensures c.new-seen.ensures no_bits (λ more. omega (arith, length-replicate {A = ℕ} 64 0))
    (walked c.args.packet hs e) refl walk in
    c.matches_seen.ensures x p hs e walk shows
