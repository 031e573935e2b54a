use Rattle.std.proofs.Common.{◌≡◌, drop, map}
use Rattle.serde_json.specs.View.{view}
use Rattle.ether_fields.specs.Fields.{field_view}
use Rattle.ether_make.specs.Slots.{after_fields}
use Rattle.ether_make.specs.SlotViews.{found_view}
use Rattle.ether_make.proofs.slot.after_fields.Given as goal

abbrev pub invariant-loop-field : goal.invariant-loop-field
invariant-loop-field l =
    after_fields l.header l.lengths (view l.object) (map field_view l.fields) (found_view l.fn.found)
    ≡ after_fields l.header l.lengths (view l.object) (map field_view (drop l.field-index l.fields))
    (found_view l.found)
