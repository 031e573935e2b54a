use Rattle.std.proofs.Common.{◌≡◌, Bool, IsTrue, ◌↔◌, sym, subst, ◌∙◌}
use Rattle.ether_filter.specs.declared.primitive.Primitive.{Primitive}
use Rattle.ether_filter.specs.FilterProgram.{primitive_numbered}
use Rattle.ether_filter.specs.Primitives.{frame_of, Matches}
use Rattle.ether_filter.proofs.Numbered.{seen_some, capture_some, capture_none, numbered_is, no_primitive, no_test}
use Rattle.ether_filter.proofs.SeenOutcomes.{never_none}
use Rattle.ether_filter.proofs.Truth.{matching_is}
use Rattle.ether_filter.proofs.outcome.matches_seen.Goals as goal

pub returns-in-Some : goal.returns-in-Some
returns-in-Some c free w at shows =
    let i = c.of_primitive-instruction.result in
    let s =
    seen_some (primitive_numbered i.kind i.operand) c.args.seen.now c.args.ids.now c.in-Some.matches
    (sym c.is_seen.ensures ∙ c.in-Some.is) in
    let some = sym (numbered_is i s.primitive s.is) ∙ c.of_primitive-instruction.ensures in
    let same : s.primitive ≡ c.args.primitive = cc in
    subst (λ (p : Primitive). IsTrue c.in-Some.matches ↔ Matches p w) same
    (subst (λ (b : Bool). IsTrue b ↔ Matches s.primitive w) (sym (shows s.primitive s.no_lengths s.no_field) ∙ s.truth)
    (matching_is w s.primitive))

pub returns : goal.returns
returns c free w at shows =
    let i = c.of_primitive-instruction.result in
    let s =
    capture_some i (frame_of c.args.packet.now) c.in-Some-matches_capture.matches
    (sym c.matches_capture.ensures ∙ c.in-Some-matches_capture.is) in
    let some = sym s.is ∙ c.of_primitive-instruction.ensures in
    let same : s.primitive ≡ c.args.primitive = cc in
    subst (λ (p : Primitive). IsTrue c.in-Some-matches_capture.matches ↔ Matches p w) same (s.iff w at)

pub returns-in_default-matches_capture : goal.returns-in_default-matches_capture
returns-in_default-matches_capture c free w at shows =
    let i = c.of_primitive-instruction.result in
    let packet = c.args.packet.now in
    let none =
    capture_none i (frame_of packet) (sym c.matches_capture.ensures ∙ c.in_default-matches_capture.is) in
    absurd (never_none i c.args.primitive c.of_primitive-instruction.ensures free
    (no_primitive (primitive_numbered i.kind i.operand) c.args.seen.now c.args.ids.now packet.captured_len
    packet.original_len (no_test i.kind i.operand) (sym c.is_seen.ensures ∙ c.in_default.is) none.0) none.1)
