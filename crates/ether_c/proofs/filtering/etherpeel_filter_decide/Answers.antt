use Rattle.std.proofs.Common.{◌≡◌, ℕ, refl, sym, subst, ◌∙◌, Bool, true, false}
use Rattle.std.specs.Prelude.{Some, None}
use mir.Val.{bool_byte}
use Rattle.ether_pcap.specs.Capture.{PacketValue}
use Rattle.ether_content.specs.Selecting.{IsOutcome}
use Rattle.ether_c.specs.Selection.{decision_number}
use Rattle.ether_c.proofs.filtering.etherpeel_filter_decide.Goals as goal

truth_number : (b : Bool) → bool_byte b ≡ decision_number (Some b)
truth_number true = refl
truth_number false = refl

pub returns-in-Some : goal.returns-in-Some
returns-in-Some c x program =
    let b = c.in-Some.is_selected in
    let is = (c.decide.ensures x (rw c.program.ensures program) (Some b)).0 c.in-Some.is in (
      Some b,
      subst (λ (p : PacketValue). IsOutcome x p (Some b)) c.to_packet.ensures is,
      c.from.ensures ∙ truth_number b,
    )

pub returns-in-None : goal.returns-in-None
returns-in-None c x program =
    let is = (c.decide.ensures x (rw c.program.ensures program) None).0 c.in-None.is in
    (None, subst (λ (p : PacketValue). IsOutcome x p None) c.to_packet.ensures is, refl)
