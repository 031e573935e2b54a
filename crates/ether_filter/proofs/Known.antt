-- Whether it is known if a test of a field holds, by what was computed.
use Rattle.std.proofs.Common.{◌≡◌, List, sym, ap, subst, ◌∙◌, Bool, true, false, IsTrue, ◌↔◌}
use Rattle.std.specs.Prelude.{Option, Some, None, ◌&&◌}
use Rattle.etherparse.specs.Types.Layer.{Layer}
use Rattle.etherparse.specs.Header.{Header}
use Rattle.ether_peel.specs.Grammar.Expectation.{has_fcs}
use Rattle.ether_peel.specs.Grammar.Stack.{Ending, Walk}
use Rattle.ether_peel.specs.Walker.Start.{start_of}
use Rattle.ether_peel.proofs.Grammar.Extensions.{fcs_is_closed, no_fcs}
use Rattle.ether_filter.specs.declared.deciding.Opening.{Opening}
use Rattle.ether_filter.specs.declared.decision.Decision.{Decision}
use Rattle.ether_filter.specs.declared.field_test.FieldTest.{FieldTest}
use Rattle.ether_filter.specs.declared.packet.Packet.{Packet}
use Rattle.ether_filter.specs.declared.primitive.Primitive.TheVariants as primitives
use Rattle.ether_filter.specs.FieldTests.{field_holds}
use Rattle.ether_filter.specs.Deciding.{asks_any, can_tell, IsFieldKnown, Says}
use Rattle.ether_filter.specs.Evaluation.{decided, IsLayer, IsOpening}
use Rattle.ether_filter.specs.Expressions.{Test}
use Rattle.ether_filter.specs.Deciding as deciding
use Rattle.ether_filter.proofs.Completions.{one_layer}

layer_is : (packet : Packet) (e : Ending) (a b : Option Layer) → a ≡ b → IsLayer packet e a → IsLayer packet e b
layer_is packet e a b is l = subst (IsLayer packet e) is l

pub known_passed : (packet : Packet) (hs : List Header) (e : Ending) (t : FieldTest) (opening : Opening) (layer : Layer)
    → IsOpening packet e (Some opening) → opening.layer ≡ Some layer → can_tell layer t ≡ false
    → IsFieldKnown packet hs e t
known_passed packet hs e t opening layer at is never =
    let l = layer_is packet e opening.layer (Some layer) is at.1 in
    deciding.passed l.0 (ap (λ (l : Layer). can_tell l t) l.1 ∙ never)

known_only : (packet : Packet) (hs : List Header) (e : Ending) (t : FieldTest) (opening : Opening) (layer : Layer)
    → IsOpening packet e (Some opening) → opening.layer ≡ Some layer → can_tell layer t ≡ true
    → IsFieldKnown packet hs e t → IsTrue (asks_any t.relation && field_holds t hs)
known_only packet hs e t opening layer at is can (deciding.whole none) = absurd (none opening.needed at.0)
known_only packet hs e t opening layer at is can (deciding.told free m) = m
known_only packet hs e t opening layer at is can (deciding.passed o none) =
    let l = layer_is packet e opening.layer (Some layer) is at.1 in
    let same : o.layer ≡ layer = one_layer e o l.0 ∙ l.1 in
    let both : true ≡ false = sym can ∙ ap (λ (l : Layer). can_tell l t) (sym same) ∙ none in
    cc

pub known_told : (packet : Packet) (hs : List Header) (e : Ending) (t : FieldTest) (opening : Opening) (layer : Layer)
    (b : Bool) → Walk (start_of packet.start) packet.frame.now hs e
    → IsOpening packet e (Some opening) → opening.layer ≡ Some layer → can_tell layer t ≡ true
    → b ≡ (asks_any t.relation && field_holds t hs) → IsTrue b ↔ IsFieldKnown packet hs e t
known_told packet hs e t opening layer b walk at is can same =
    let l = layer_is packet e opening.layer (Some layer) is at.1 in (
      λ m. deciding.told (no_fcs (start_of packet.start) packet.frame.now hs e walk l.0) (sym same ∙ m),
      λ k. same ∙ known_only packet hs e t opening layer at is can k,
    )

-- of a frame check sequence
pub unknown_fcs : (packet : Packet) (hs : List Header) (e : Ending) (t : FieldTest) (opening : Opening)
    → Walk (start_of packet.start) packet.frame.now hs e
    → IsOpening packet e (Some opening) → opening.layer ≡ None → IsFieldKnown packet hs e t → ⊥
unknown_fcs packet hs e t opening walk at is (deciding.whole none) = none opening.needed at.0
unknown_fcs packet hs e t opening walk at is (deciding.told free m) =
    let has : has_fcs (start_of packet.start) ≡ true = layer_is packet e opening.layer None is at.1 in
    let both : true ≡ false = sym has ∙ free in
    cc
unknown_fcs packet hs e t opening walk at is (deciding.passed o none) =
    let has = layer_is packet e opening.layer None is at.1 in
    fcs_is_closed (start_of packet.start) packet.frame.now hs e has walk o

-- ---- of a test as an expression

pub test_decided : (packet : Packet) (hs : List Header) (e : Ending) (t : FieldTest) (b : Bool) (d : Decision)
    → d ≡ decided b → IsFieldKnown packet hs e t → b ≡ field_holds t hs
    → Says packet hs e (Test (primitives.Field t)) d
test_decided packet hs e t true d same known is =
    subst (Says packet hs e (Test (primitives.Field t))) (sym same) (known, sym is)
test_decided packet hs e t false d same known is =
    subst (Says packet hs e (Test (primitives.Field t))) (sym same)
    (known, λ m. let both : false ≡ true = is ∙ m in cc)
