use Rattle.std.proofs.Common.{◌≡◌, drop, map}
use Rattle.ether_make.specs.Objects.{is_among}
use Rattle.ether_make.proofs.objects.is_other.Given as goal

abbrev pub invariant-loop-word : goal.invariant-loop-word
invariant-loop-word l =
    is_among (map (λ o. o.now) l.words) l.name ≡ is_among (map (λ o. o.now) (drop l.word-index l.words)) l.name
