use Rattle.std.proofs.Common.{◌≡◌, ◌++◌, drop, map}
use Rattle.serde_json.specs.View.{view}
use Rattle.ether_fields.specs.Fields.{field_view}
use Rattle.ether_make.specs.Headers.{fields_meaning}
use Rattle.ether_make.specs.Refusals.{result_map}
use Rattle.ether_make.proofs.header.fields_meaning.Given as goal

abbrev pub invariant-loop-field : goal.invariant-loop-field
invariant-loop-field l =
    fields_meaning l.at l.lengths l.next (view l.object) (map field_view l.fields)
    ≡ result_map (λ more. l.bits.items ++ more)
    (fields_meaning l.at l.lengths l.next (view l.object) (map field_view (drop l.field-index l.fields)))
