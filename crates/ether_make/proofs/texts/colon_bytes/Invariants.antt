use Rattle.std.proofs.Common.{◌≡◌, ◌++◌, ◌∷◌, ◌≤◌, ◌-◌, ◌+◌, length, drop, option_map}
use Rattle.ether_make.specs.Texts.{pairs_after}
use Rattle.ether_make.proofs.texts.colon_bytes.Given as goal

abbrev pub invariant-loop-at : goal.invariant-loop-at
invariant-loop-at l = record {
  inside : l.at ≤ length l.text + 1;
  so_far : pairs_after (58 ∷ l.text) ≡ option_map (λ more. l.bytes.items ++ more) (pairs_after (drop l.at
      (58 ∷ l.text)));
}

abbrev pub decreases-loop-at : goal.decreases-loop-at
decreases-loop-at l = length l.text + 1 - l.at
