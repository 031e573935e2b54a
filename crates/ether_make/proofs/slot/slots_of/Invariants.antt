use Rattle.std.proofs.Common.{◌≡◌, drop, map}
use Rattle.serde_json.specs.View.{view}
use Rattle.ether_make.specs.Slots.{after_headers, nothing}
use Rattle.ether_make.specs.SlotViews.{found_view}
use Rattle.ether_make.proofs.slot.slots_of.Given as goal

abbrev pub invariant-loop-header : goal.invariant-loop-header
invariant-loop-header l =
    after_headers 0 (map view l.objects) nothing
    ≡ after_headers l.header (map view (drop l.header l.objects)) (found_view l.found)
