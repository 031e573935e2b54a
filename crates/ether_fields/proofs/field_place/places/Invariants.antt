use Rattle.std.proofs.Common.{◌≡◌, drop, ◌*◌, ◌≤◌, ◌++◌, length, map}
use Rattle.ether_fields.specs.Fields.{field_view, section_rows}
use Rattle.ether_fields.specs.Places.{placed}
use Rattle.ether_fields.proofs.field_place.places.Given as goal

abbrev pub invariant-loop-field : goal.invariant-loop-field
invariant-loop-field l =
    (l.places.items ++ placed l.part l.first (map field_view (drop l.field-index l.field-items))
    ≡ placed l.fn.part 0 (drop 5 (section_rows l.fn.section)))
    × (l.part ≡ l.fn.part) × (length l.places.items ≤ l.field-index) × (length l.field-items ≤ 13)
    × (l.first ≤ 65535 * l.field-index)
