use Rattle.std.proofs.Common.{Bool, IsTrue, ◌↔◌, refl, sym, subst, ◌∙◌}
use Rattle.ether_filter.specs.FilterProgram.{primitive_numbered}
use Rattle.ether_filter.specs.Primitives.{Matches, frame_of, walked}
use Rattle.ether_filter.specs.declared.primitive.Primitive.TheVariants as primitives
use Rattle.ether_filter.proofs.Numbered.{seen_some, capture_some, capture_none, numbered_is, no_primitive, no_test}
use Rattle.ether_filter.proofs.ProgramLemmas.{field_is}
use Rattle.ether_filter.proofs.Truth.{same_truth, matching_is}
use Rattle.ether_filter.proofs.matching.matches_instruction.Goals as goal

pub returns-in-Some-clause-some : goal.returns-in-Some-clause-some
returns-in-Some-clause-some c =
    let i = c.args.instruction.now in
    let s =
    seen_some (primitive_numbered i.kind i.operand) c.args.seen.now c.args.ids.now c.in-Some.matches
    (sym c.is_seen.ensures ∙ c.in-Some.is) in (
      s.primitive,
      numbered_is i s.primitive s.is,
      λ hs e walk shows.
          let w = walked c.args.packet.now hs e in
          subst (λ (b : Bool). IsTrue b ↔ Matches s.primitive w)
          (sym (shows s.primitive s.no_lengths s.no_field) ∙ s.truth) (matching_is w s.primitive),
    )

pub returns-in-Some-matches_capture-clause-some : goal.returns-in-Some-matches_capture-clause-some
returns-in-Some-matches_capture-clause-some c =
    let packet = c.args.packet.now in
    let s =
    capture_some c.args.instruction.now (frame_of packet) c.in-Some-matches_capture.matches
    (sym c.matches_capture.ensures ∙ c.in-Some-matches_capture.is) in
    (s.primitive, s.is, λ hs e walk shows. s.iff (walked packet hs e) refl)

pub returns-in-Some-field_test-clause-some : goal.returns-in-Some-field_test-clause-some
returns-in-Some-field_test-clause-some c =
    let i = c.args.instruction.now in
    let packet = c.args.packet.now in
    let none =
    no_primitive (primitive_numbered i.kind i.operand) c.args.seen.now c.args.ids.now packet.captured_len
    packet.original_len (no_test i.kind i.operand) (sym c.is_seen.ensures ∙ c.in_default.is)
    (capture_none i (frame_of packet) (sym c.matches_capture.ensures ∙ c.in_default-matches_capture.is)).0 in (
      primitives.Field c.in-Some-field_test.test,
      field_is i c.in-Some-field_test.test none (sym c.field_test.ensures ∙ c.in-Some-field_test.is),
      λ hs e walk shows. same_truth (c.matches_field.ensures hs e walk),
    )
