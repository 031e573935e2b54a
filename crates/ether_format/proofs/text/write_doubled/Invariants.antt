use Rattle.std.specs.Prelude.{[], ◌∷◌, if◌then◌else◌, nat_eq}
use Rattle.ether_format.proofs.ListLemmas.{WritesFirst}
use Rattle.ether_format.proofs.text.write_doubled.Given as goal

abbrev pub invariant-loop-byte : goal.invariant-loop-byte
invariant-loop-byte g l =
    WritesFirst g.W.Sink.contents g.W.Sink.can_fail (λ b. if nat_eq b 34 then 34 ∷ 34 ∷ [] else b ∷ []) l.text
    l.byte-index l.fn.out l.out
