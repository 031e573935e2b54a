use Rattle.std.proofs.Common.{◌≡◌, drop, map}
use Rattle.ether_fields.specs.Fields.{field_view}
use Rattle.ether_make.specs.Objects.{is_among}
use Rattle.ether_make.proofs.objects.is_field.Given as goal

abbrev pub invariant-loop-field : goal.invariant-loop-field
invariant-loop-field l =
    is_among (map (λ r. r.name) (map field_view l.fields)) l.name
    ≡ is_among (map (λ r. r.name) (map field_view (drop l.field-index l.fields))) l.name
