use Rattle.std.proofs.Common.{◌≡◌, ℕ, suc, ◌+◌, List, length, set, get_or, refl, ap, ◌∙◌, arith}
use Rattle.ether_switch.specs.declared.stations.StationBucket.{StationBucket}
use Rattle.ether_switch.specs.Stations.{no_sightings, without}
use Rattle.ether_switch.proofs.Mapped.{mapped_to, mapped_more, mapped_all}
use Rattle.ether_switch.proofs.forgetting.forget.Goals as goal

pub loop-bucket-init : goal.loop-bucket-init
loop-bucket-init c = refl

pub loop-bucket-preserved : goal.loop-bucket-preserved
loop-bucket-preserved c =
    let old = c.args.table.now in
    let at = c.loop-bucket.bucket-index in
    let f = without c.args.which in
    let next : suc at ≡ at + 1 = omega arith in
    ap (set c.loop-bucket.table at) c.without.ensures
    ∙ ap (λ (l : List StationBucket). set l at (f (get_or l at no_sightings))) c.loop-bucket.invariant
    ∙ mapped_more f old at no_sightings c.loop-bucket-test.true
    ∙ ap (λ (n : ℕ). mapped_to f n old) next

pub returns : goal.returns
returns c =
    let old = c.args.table.now in
    let all : c.loop-bucket.bucket-index ≡ length old = omega arith in
    c.loop-bucket.invariant
    ∙ ap (λ (n : ℕ). mapped_to (without c.args.which) n old) all
    ∙ mapped_all (without c.args.which) old
