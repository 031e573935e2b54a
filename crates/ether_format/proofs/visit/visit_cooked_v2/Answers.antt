use Rattle.std.proofs.Common.{ℕ, List, [], ◌∷◌, length, Option, false, true, refl, sym, ap, subst, ◌∙◌}
use Rattle.std.specs.Prelude.{slice_range}
use Rattle.ether_base.specs.Formats.LinuxSllProtocolType.{told_ether_type}
use Rattle.ether_peel.specs.Walker.Start.{start_with}
use Rattle.ether_peel.specs.declared.start.Start.{Start}
use Rattle.ether_peel.specs.declared.rest_kind.RestKind.TheVariants as rests
use Rattle.ether_sll2.specs.LinuxSll2.{linux_sll2_of, AcceptsLinuxSll2, protocol_of_header}
use Rattle.ether_content.proofs.ContentLemmas.{none_of, started}
use Rattle.ether_sll2.specs.Views.{refusal_view}
use Rattle.ether_format.specs.declared.cause.Cause.{Cause}
use Rattle.ether_format.specs.declared.end.End.TheVariants.{Rest, Fault}
use Rattle.ether_format.specs.declared.place.Place.{Place}
use Rattle.ether_format.specs.Told.{CookedV2, Told, TellsAfter, TellsCookedV2, TellsWalk, cooked_place, is_end_accepted, read, refused}
use Rattle.ether_format.proofs.visit.visit_cooked_v2.Goals as goal

pub returns-in-Err : goal.returns-in-Err
returns-in-Err g c =
    let refusal = refusal_view c.in-Err.error in (
      [],
      subst (λ (cause : Cause). TellsCookedV2 c.args.limit c.args.bytes.now [] (Fault 0 false cause) false)
          (sym c.of_v2.ensures) (refused refusal c.in-Err.ensures.refused),
      (refl, refl),
    )

pub returns-in-Some : goal.returns-in-Some
returns-in-Some g c =
    let packet = c.in-Ok.packet in
    let same = c.in-Ok.ensures.bytes in
    let found = started (told_ether_type (protocol_of_header packet)) c.in-Some.start
    (sym c.start-start.ensures ∙ c.in-Some.is) in
    let end = c.visit_walk.result in
    let accepted = is_end_accepted end in
    let later = c.visit_walk.ensures.0 in
    let first = CookedV2 (cooked_place 20 (length packet)) (linux_sll2_of packet) in
    let told : List Told = first ∷ later in
    let payload = slice_range packet 20 (length packet) in
    let place = c.cooked_place.ensures ∙ ap (λ (l : List ℕ). cooked_place 20 (length l)) (sym same) in
    let walk = subst (λ (s : Start). TellsWalk 20 (start_with s c.args.limit) payload later end accepted) found.2
    (subst (λ (l : List ℕ). TellsWalk 20 (start_with c.in-Some.start c.args.limit) l later end accepted)
    c.payload_slice-payload.ensures c.visit_walk.ensures.1) in
    let taken =
    subst
    (λ (q : Place). g.V.Visitor.takes c.args.visitor.now c.args.target.now (CookedV2 q (linux_sll2_of packet))
    c.header.new.self c.header.new.target)
    place c.header.ensures in (
      told,
      subst (λ (bytes : List ℕ). TellsCookedV2 c.args.limit bytes told end accepted) same
          (read told end accepted (subst AcceptsLinuxSll2 (sym same) c.in-Ok.ensures.accepted)
          (subst (λ (o : Option ℕ). TellsAfter c.args.limit o packet told end accepted) (sym found.1)
          (record { later = later; walk = walk; whole = refl }))),
      (c.header.new.self, c.header.new.target, taken, c.visit_walk.ensures.2),
    )

pub returns-in-None : goal.returns-in-None
returns-in-None g c =
    let packet = c.in-Ok.packet in
    let same = c.in-Ok.ensures.bytes in
    let none = none_of _ _ (sym c.start-start.ensures ∙ c.in-None.is) in
    let end = Rest 20 (length c.args.bytes.now) (rests.Sll c.protocol_type.result) in
    let told : List Told = CookedV2 (cooked_place 20 (length packet)) (linux_sll2_of packet) ∷ [] in
    let place = c.cooked_place.ensures ∙ ap (λ (l : List ℕ). cooked_place 20 (length l)) (sym same) in
    let taken =
    subst
    (λ (q : Place). g.V.Visitor.takes c.args.visitor.now c.args.target.now (CookedV2 q (linux_sll2_of packet))
    c.header.new.self c.header.new.target)
    place c.header.ensures in (
      told,
      subst (λ (bytes : List ℕ). TellsCookedV2 c.args.limit bytes told end true) same
          (read told end true (subst AcceptsLinuxSll2 (sym same) c.in-Ok.ensures.accepted)
          (subst (λ (o : Option ℕ). TellsAfter c.args.limit o packet told end true) (sym none)
          (refl, (λ i. Rest 20 (length (sym same i)) (rests.Sll (c.protocol_type.ensures i))), refl))),
      (c.header.new.self, c.header.new.target, taken, (refl, refl)),
    )
