use Rattle.std.proofs.Common.{◌≡◌, ℕ, true, length, set, get_or, if◌then◌else◌, sym, ap, ◌∙◌}
use Rattle.ether_switch.specs.Stations.{no_sightings, places, with_place, place_for, first_bucket, second_bucket, has_part, places_at, bucket_for, put_at}
use Rattle.ether_switch.proofs.stations.learn.Goals as goal

pub returns : goal.returns
returns c =
    let table = c.args.table.now in
    let s = c.args.sighting in
    let vlan = c.args.vlan.now in
    let ageing = c.args.ageing_time in
    let m = first_bucket c.args.key vlan s.address in
    let n = second_bucket c.args.key vlan s.address in
    let at = c.choose-at.result in
    let part : true ≡ has_part (length table) vlan = sym c.if-not-is_part_of.false ∙ c.is_part_of.ensures in
    let chosen : at ≡ bucket_for ageing s (places_at table m) (places_at table n) m n =
    c.choose-at.ensures.value
    ∙ (λ i. bucket_for ageing s (places_at table (c.buckets_of-first.ensures.first i))
    (places_at table (c.buckets_of-first.ensures.second i)) (c.buckets_of-first.ensures.first i)
    (c.buckets_of-first.ensures.second i)) in
    let bucket : c.set_place.new.self
    ≡ with_place (place_for ageing s (places (get_or table at no_sightings))) s (get_or table at no_sightings) =
    c.set_place.ensures
    ∙ ap (λ (k : ℕ). with_place k s (get_or table at no_sightings)) c.place_for-place.ensures in
    ap (set table at) bucket
    ∙ ap (put_at ageing s table) chosen
    ∙ ap (λ (b : _). if b then put_at ageing s table (bucket_for ageing s (places_at table m) (places_at table n) m n)
    else table) part
