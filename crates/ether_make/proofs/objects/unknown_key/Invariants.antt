use Rattle.std.proofs.Common.{◌≡◌, ◌++◌, map}
use Rattle.serde_json.specs.View.{members_view}
use Rattle.ether_fields.specs.Fields.{field_view}
use Rattle.ether_make.specs.Objects.{unknown_in}
use Rattle.ether_make.proofs.KeyLemmas.{unknown_key}
use Rattle.ether_make.proofs.objects.unknown_key.Given as goal

abbrev pub invariant-loop-key : goal.invariant-loop-key
invariant-loop-key l = record {
  next : (goal.iterator-loop-key).can_next l.key-iterator;
  finite : (goal.iterator-loop-key).is_finite l.key-iterator;
  so_far : let known = map (λ r. r.name) (map field_view l.fields) ++ map (λ o. o.now) l.others in
      unknown_in known (members_view l.object.entries) ≡ unknown_key known l.key-iterator;
}
