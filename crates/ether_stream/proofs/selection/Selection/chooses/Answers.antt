use Rattle.std.proofs.Common.{◌≡◌, Bool, true, false, Option, Some, None, refl, inl, inr}
use Rattle.std.specs.Prelude.{◌↔◌, IsTrue}
use Rattle.ether_content.specs.Selecting.{IsOutcome}
use Rattle.ether_filter.specs.Expressions.{Expression}
use Rattle.ether_pcap.specs.Capture.{PacketValue}
use Rattle.ether_stream.specs.Task.{IsChosenOf, chosen_by}
use Rattle.ether_stream.specs.declared.selection.Undecided.{Undecided}
use Rattle.ether_stream.specs.declared.selection.Undecided.TheVariants.{Dropped, Kept}
use Rattle.ether_stream.proofs.selection.Selection.chooses.Goals as goal

chosen_alike : (u : Undecided) (x : Expression) (p : PacketValue) (found : Option Bool)
    → ((outcome : Option Bool) → (found ≡ outcome) ↔ IsOutcome x p outcome)
    → IsTrue (chosen_by u found) ↔ IsChosenOf (Some u) x p
chosen_alike Kept x p None outcomes = (λ is. inr ((outcomes None).0 refl), λ chosen. refl)
chosen_alike Kept x p (Some true) outcomes = (λ is. inl ((outcomes (Some true)).0 refl), λ chosen. refl)
chosen_alike Kept x p (Some false) outcomes = (
  λ is. absurd cc,
  λ chosen. elim chosen [
    | inl is ↦ absurd (let bad = (outcomes (Some true)).1 is in cc)
    | inr is ↦ absurd (let bad = (outcomes None).1 is in cc)
  ],
)
chosen_alike Dropped x p None outcomes =
    (λ is. absurd cc, λ chosen. absurd (let bad = (outcomes (Some true)).1 chosen in cc))
chosen_alike Dropped x p (Some true) outcomes = (λ is. (outcomes (Some true)).0 refl, λ chosen. refl)
chosen_alike Dropped x p (Some false) outcomes =
    (λ is. absurd cc, λ chosen. absurd (let bad = (outcomes (Some true)).1 chosen in cc))

pub returns-in-Some : goal.returns-in-Some
returns-in-Some c =
    rw c.in-Some.is
    (rw c.chooses.ensures (chosen_alike c.in-Some.undecided _ _ c.decide.result c.decide.ensures))
