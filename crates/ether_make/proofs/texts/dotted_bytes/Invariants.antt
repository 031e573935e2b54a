use Rattle.std.proofs.Common.{◌≡◌, ◌++◌, drop, option_map}
use Rattle.ether_make.specs.Texts.{dotted_bytes, dotted_after}
use Rattle.ether_make.proofs.texts.dotted_bytes.Given as goal

abbrev pub invariant-loop-c : goal.invariant-loop-c
invariant-loop-c l =
    dotted_bytes l.text ≡ option_map (λ more. l.bytes.items ++ more) (dotted_after l.number (drop l.c-index l.text))
