use Rattle.std.proofs.Common.{◌≡◌, ◌++◌, ◌≤◌, ◌-◌, length, drop, option_map}
use Rattle.ether_make.specs.Texts.{hex_bytes}
use Rattle.ether_make.proofs.texts.hex_bytes.Given as goal

abbrev pub invariant-loop-at : goal.invariant-loop-at
invariant-loop-at l = record {
  inside : l.at ≤ length l.text;
  so_far : hex_bytes l.text ≡ option_map (λ more. l.bytes.items ++ more) (hex_bytes (drop l.at l.text));
}

abbrev pub decreases-loop-at : goal.decreases-loop-at
decreases-loop-at l = length l.text - l.at
