use Rattle.std.proofs.Common.{◌≡◌, List, map, ap, sym, subst, ◌∙◌}
use Rattle.serde_json.specs.Data.{Data}
use Rattle.serde_json.specs.Find.{as_array}
use Rattle.serde_json.specs.View.{view}
use Rattle.serde_json.specs.declared.value.Value.{Value}
use Rattle.ether_make.specs.Refusals.{Tells}
use Rattle.ether_make.specs.SlotViews.{found_view}
use Rattle.ether_make.specs.Slots.{after_headers, nothing}
use Rattle.ether_make.specs.Templates.{listed_in}
use Rattle.ether_make.proofs.FrameLemmas.{listed-items}
use Rattle.ether_make.proofs.template.array_slots.Goals as goal

pub returns-in-Some : goal.returns-in-Some
returns-in-Some c =
    let e : listed_in (as_array (view c.args.headers.now)) ≡ map view c.as_slice.result.now =
    ap listed_in (sym c.in-Some.ensures) ∙ listed-items (map view c.in-Some.objects.now.items)
    ∙ ap (λ (vs : List Value). map view vs) (sym c.as_slice.ensures.value) in
    subst (λ (ds : List Data). Tells found_view (after_headers 0 ds nothing) c.slots_of.result) (sym e)
    c.slots_of.ensures
