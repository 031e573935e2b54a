-- With fewer bytes than a packet needs an expression is unknown.
use Rattle.std.proofs.Common.{◌≡◌, ℕ, append_assoc, ◌+◌, ◌<◌, ◌≤◌, List, [], ◌∷◌, ◌++◌, length, refl, sym, ap, subst, ◌∙◌, arith, Bool, true, false, inl, inr}
use Rattle.std.specs.Prelude.{Option, Some, None, IsTrue, not, nat_eq, ◌&&◌, if◌then◌else◌}
use Rattle.std.specs.Option.{option_map}
use Rattle.std.proofs.lemmas.Bool.{cases_lt, or_parts}
use Rattle.std.proofs.lemmas.List.{length-append}
use Rattle.etherparse.specs.Bytes.{IsBytes}
use Rattle.etherparse.proofs.Numbers.{IsBytes-append, IsBytes-tail}
use Rattle.etherparse.specs.Types.Layer.{Layer}
use Rattle.etherparse.specs.Header.{Header}
use Rattle.etherparse.specs.Refusal.{Length}
use Rattle.ether_peel.specs.Grammar.Expectation.{has_fcs, Next}
use Rattle.ether_peel.specs.Grammar.Stack.{Ending, Walk, whole}
use Rattle.ether_peel.specs.Grammar.Endings.{OpenRefusal, named_len}
use Rattle.ether_peel.specs.Walker.Start.{start_of, next_of}
use Rattle.ether_peel.proofs.Grammar.Extensions.{extensions_keep, fcs_is_closed, no_fcs}
use Rattle.ether_peel.proofs.Grammar.Stacks.{one_stack}
use Rattle.ether_peel.specs.declared.start.Start.{Start}
use Rattle.ether_filter.specs.declared.field_test.FieldTest.{FieldTest}
use Rattle.ether_filter.specs.declared.node.Operator.{Operator}
use Rattle.ether_filter.specs.declared.node.Operator.TheVariants as operators
use Rattle.ether_filter.specs.declared.packet.Packet.{Packet}
use Rattle.ether_filter.specs.declared.primitive.Primitive.{Primitive}
use Rattle.ether_filter.specs.declared.primitive.Primitive.TheVariants as primitives
use Rattle.ether_filter.specs.FieldTests.{field_holds, Frame, Given, Number, as_number, frame_gives, frame_holds, answer_if, hit_if}
use Rattle.ether_filter.specs.Primitives.{Walked, walked, frame_in, nanoseconds_of, time_of, Matches}
use Rattle.ether_filter.specs.Expressions.{Expression, Test, Not, Join, Holds}
use Rattle.ether_filter.specs.Prospects.{IsCompletion, AtCompletions}
use Rattle.ether_filter.specs.Needed.{IsLonger, HasMore, IsLeast, IsUndecided}
use Rattle.ether_filter.specs.Deciding.{asks_captured, is_of_captured, lost, IsOpenAt, refused, fcs, can_tell, asks_any, IsFieldKnown, neutral, Knows, IsUnknown, NeedsTest, NeedsLen}
use Rattle.ether_filter.specs.Deciding as deciding
use Rattle.ether_filter.proofs.Completions.{fields_agree}
use Rattle.ether_filter.proofs.Kleene.{IsSo, knows_so, some_completed, undecided_unknown, both_unknown}

-- ---- the walk of more bytes

-- a walk of more bytes, with the same headers, is still refused
record IsAlike (hs : List Header) (e : Ending) (o : OpenRefusal e) (ks : List Header) (f : Ending) : Type 0 where
  headers : ks ≡ hs
  refusal : OpenRefusal f
  names : named_len f refusal ≡ named_len e o
  layer : (p : OpenRefusal f) → p.layer ≡ o.layer

alike : (packet longer : Packet) (hs ks : List Header) (e f : Ending) (o : OpenRefusal e) → IsLonger packet longer
    → Walk (start_of packet.start) packet.frame.now hs e → Walk (start_of longer.start) longer.frame.now ks f
    → length longer.frame.now < named_len e o → IsAlike hs e o ks f
alike packet longer hs ks e f o is s t lt =
    let start = start_of packet.start in
    let t : Walk start longer.frame.now ks f =
    subst (λ (b : Start). Walk (start_of b) longer.frame.now ks f) is.start t in
    let t : Walk start (packet.frame.now ++ is.more) ks f = subst (λ (l : List ℕ). Walk start l ks f) is.frame t in
    let lt = subst (λ (l : List ℕ). length l < named_len e o) is.frame lt in
    let free = no_fcs start packet.frame.now hs e s o in
    let all = extensions_keep start packet.frame.now hs e free s is.more ks f t in
    let k = all.waiting o lt in
    record {
      headers = k.0.headers;
      refusal = record {
        required = o.required;
        len = o.len + length is.more;
        source = o.source;
        layer = o.layer;
        refused = k.1;
        is_open = k.0.closed ∙ o.is_open;
      };
      names = ap (λ (start : ℕ). start + o.required) k.0.start;
      layer = λ p. let was = p.refused in
          let both : Some (Length p.required p.len p.source p.layer)
          ≡ Some (Length o.required (o.len + length is.more) o.source o.layer) = sym was ∙ k.1 in
          cc;
    }

-- ---- a test of a field

-- what is known with more bytes was known
was_known : (packet longer : Packet) (hs ks : List Header) (e f : Ending) (o : OpenRefusal e) (n : ℕ) (t : FieldTest)
    → IsAlike hs e o ks f → has_fcs (start_of packet.start) ≡ false → IsOpenAt longer f n
    → IsFieldKnown longer ks f t → IsFieldKnown packet hs e t
was_known packet longer hs ks e f o n t a free at (deciding.whole never) = absurd (never n at)
was_known packet longer hs ks e f o n t a free at (deciding.told _ is) =
    deciding.told free
    (subst (λ (l : List Header). IsTrue (asks_any t.relation && field_holds t l)) a.headers is)
was_known packet longer hs ks e f o n t a free at (deciding.passed q never) =
    deciding.passed o (ap (λ (l : Layer). can_tell l t) (sym (a.layer q)) ∙ never)

-- with a frame check sequence nothing is known
never_known : (longer : Packet) (ks : List Header) (f : Ending) (n : ℕ) (t : FieldTest)
    → Walk (start_of longer.start) longer.frame.now ks f → has_fcs (start_of longer.start) ≡ true → IsOpenAt longer f n
    → IsFieldKnown longer ks f t → ⊥
never_known longer ks f n t w has at (deciding.whole never) = never n at
never_known longer ks f n t w has at (deciding.told free is) = cc
never_known longer ks f n t w has at (deciding.passed o never) =
    fcs_is_closed (start_of longer.start) longer.frame.now ks f has w o

field_waits : (packet longer : Packet) (hs ks : List Header) (e f : Ending) (n : ℕ) (t : FieldTest)
    → Walk (start_of packet.start) packet.frame.now hs e → Walk (start_of longer.start) longer.frame.now ks f
    → IsLonger packet longer → length longer.frame.now < n → IsOpenAt packet e n → (IsFieldKnown packet hs e t → ⊥)
    → IsFieldKnown longer ks f t → ⊥
field_waits packet longer hs ks e f n t s w is lt (refused o cut names few) never k =
    let len = ap length is.frame ∙ length-append packet.frame.now is.more in
    let captured = is.captured in
    let original = is.original in
    let a = alike packet longer hs ks e f o is s w (omega arith) in
    let at : IsOpenAt longer f n = refused a.refusal (omega arith) (a.names ∙ names) (omega arith) in
    let free = no_fcs (start_of packet.start) packet.frame.now hs e s o in
    never (was_known packet longer hs ks e f o n t a free at k)
field_waits packet longer hs ks e f n t s w is lt (fcs has cut all) never k =
    let len = ap length is.frame ∙ length-append packet.frame.now is.more in
    let captured = is.captured in
    let original = is.original in
    let has : has_fcs (start_of longer.start) ≡ true = ap (λ (b : Start). has_fcs (start_of b)) is.start ∙ has in
    never_known longer ks f n t w has (fcs has (omega arith) (omega arith)) k

-- ---- a packet that needs bytes was cut

-- the only completion of a packet that is all there is its frame
one_completed : (packet : Packet) (more rest : List ℕ) (hs ks : List Header) (e f : Ending)
    → packet.original_len ≤ packet.captured_len → IsCompletion packet more → IsCompletion packet rest
    → Walk (start_of packet.start) (packet.frame.now ++ more) hs e
    → Walk (start_of packet.start) (packet.frame.now ++ rest) ks f → (hs ≡ ks) × (e ≡ f)
one_completed packet [] [] hs ks e f le c d s t =
    let start = start_of packet.start in
    let list = packet.frame.now ++ [] in
    one_stack list start (whole start list) hs ks e f s t
one_completed packet (b ∷ more) rest hs ks e f le c d s t = let all = c.all in absurd (omega arith)
one_completed packet more (b ∷ rest) hs ks e f le c d s t = let all = d.all in absurd (omega arith)

pub undecided_cut : (packet : Packet) (p : Primitive) → IsUndecided packet p → packet.captured_len < packet.original_len
undecided_cut packet p u =
    elim (cases_lt packet.captured_len packet.original_len) [
      | inl lt ↦ lt
      | inr le ↦
          let a = u.0 in
          let b = u.1 in
          let one = one_completed packet a.more b.more a.headers b.headers a.ending b.ending le a.completes b.completes
          a.walk b.walk in
          absurd (b.holds (subst (λ (f : Ending). Matches p (walked packet b.headers f)) one.1
          (subst (λ (l : List Header). Matches p (walked packet l a.ending)) one.0 a.holds)))
    ]

-- a longer packet with fewer bytes than are needed is within the packet on the wire
has_more : (packet longer : Packet) (p : Primitive) (n : ℕ) → IsLonger packet longer → IsBytes longer.frame.now
    → length longer.frame.now < n → IsLeast packet p n → HasMore packet longer
has_more packet longer p n is ok lt least =
    let w = least.decides in
    let with_n = w.1.captures in
    let there = w.2 in
    let len = ap length is.frame ∙ length-append packet.frame.now is.more in
    let long = ap length with_n.frame ∙ length-append packet.frame.now with_n.more in
    let captured = is.captured in
    let original = is.original in
    let also = with_n.captured in
    let total = with_n.original in
    let within = w.1.within in
    record { captures = is; are_bytes = ok; within = omega arith }

test_cut : (packet longer : Packet) (hs : List Header) (e : Ending) (n : ℕ) (p : Primitive) → IsLonger packet longer
    → IsBytes longer.frame.now → length longer.frame.now < n → NeedsTest packet hs e n p
    → longer.captured_len < longer.original_len
test_cut packet longer hs e n (primitives.Field t) is ok lt u =
    let len = ap length is.frame ∙ length-append packet.frame.now is.more in
    let captured = is.captured in
    let original = is.original in
    elim u.1 [ refused o cut names few ↦ omega arith | fcs has cut all ↦ omega arith ]
test_cut packet longer hs e n p is ok lt u =
    undecided_cut longer p (u.1.stays longer (has_more packet longer p n is ok lt u.1) lt)

needs_cut : (packet longer : Packet) (hs : List Header) (e : Ending) (n : ℕ) (x : Expression) → IsLonger packet longer
    → IsBytes longer.frame.now → length longer.frame.now < n → NeedsLen packet hs e n x
    → longer.captured_len < longer.original_len
needs_cut packet longer hs e n (Test p) is ok lt u = test_cut packet longer hs e n p is ok lt u
needs_cut packet longer hs e n (Not x) is ok lt u = needs_cut packet longer hs e n x is ok lt u
needs_cut packet longer hs e n (Join o x y) is ok lt (inl u) = needs_cut packet longer hs e n y is ok lt u.1
needs_cut packet longer hs e n (Join o x y) is ok lt (inr (inl u)) = needs_cut packet longer hs e n x is ok lt u.0
needs_cut packet longer hs e n (Join o x y) is ok lt (inr (inr u)) =
    let least = u.4 in needs_cut packet longer hs e u.0 x is ok (omega arith) u.2

-- ---- what was known is not known otherwise

-- a test of what the capture says that does not ask for the captured length
frame_same : (t : FieldTest) (f g : Frame) → nat_eq t.field 254 ≡ false → f.original ≡ g.original
    → f.time ≡ g.time → frame_holds t f ≡ frame_holds t g
frame_same t f g none same at =
    let gives : frame_gives t.field f ≡ frame_gives t.field g =
    rw none (λ i. if nat_eq t.field 253 then option_map as_number (at i)
    else (if nat_eq t.field 255 then Some (Number (same i)) else None)) in
    ap (λ (o : Option Given). answer_if t.relation (hit_if t o)) gives

-- of two cut packets with the same headers the same holds, however many bytes were captured
abbrev walked_at : Next → List Header → Ending → (captured original : ℕ) → (time : Option ℕ) → Walked
walked_at start hs e captured original time =
    record { start = start; headers = hs; ending = e; captured = captured; original = original; time = time }

test_at : (p : Primitive) (start : Next) (hs : List Header) (e : Ending) (a b original : ℕ) (time : Option ℕ)
    → is_of_captured p ≡ false → a < original → b < original → Matches p (walked_at start hs e a original time)
    → Matches p (walked_at start hs e b original time)
test_at primitives.Cut start hs e a b original time none cut still m = still
test_at (primitives.Frame t) start hs e a b original time none cut still m =
    let same = frame_same t (frame_in (walked_at start hs e a original time))
    (frame_in (walked_at start hs e b original time)) none refl refl in
    sym same ∙ m
test_at p start hs e a b original time none cut still m = m

holds_at : (x : Expression) (start : Next) (hs : List Header) (e : Ending) (a b original : ℕ) (time : Option ℕ)
    → asks_captured x ≡ false → a < original → b < original → Holds x (walked_at start hs e a original time)
    → Holds x (walked_at start hs e b original time)
holds_at (Test p) start hs e a b original time none cut still h =
    test_at p start hs e a b original time none cut still h
holds_at (Not x) start hs e a b original time none cut still never =
    λ h. never (holds_at x start hs e b a original time none still cut h)
holds_at (Join operators.And x y) start hs e a b original time none cut still h =
    let two = or_parts (asks_captured x) (asks_captured y) none in (
      holds_at x start hs e a b original time two.0 cut still h.0,
      holds_at y start hs e a b original time two.1 cut still h.1,
    )
holds_at (Join operators.Or x y) start hs e a b original time none cut still (inl h) =
    let two = or_parts (asks_captured x) (asks_captured y) none in
    inl (holds_at x start hs e a b original time two.0 cut still h)
holds_at (Join operators.Or x y) start hs e a b original time none cut still (inr h) =
    let two = or_parts (asks_captured x) (asks_captured y) none in
    inr (holds_at y start hs e a b original time two.1 cut still h)

so_at : (b : Bool) (x : Expression) (start : Next) (hs : List Header) (e : Ending) (n m original : ℕ)
    (time : Option ℕ) → asks_captured x ≡ false → n < original → m < original
    → IsSo b x (walked_at start hs e n original time) → IsSo b x (walked_at start hs e m original time)
so_at true x start hs e n m original time none cut still h = holds_at x start hs e n m original time none cut still h
so_at false x start hs e n m original time none cut still never =
    λ h. never (holds_at x start hs e m n original time none still cut h)

longer_is : (packet longer : Packet) (hs : List Header) (e : Ending) → IsLonger packet longer
    → walked longer hs e
    ≡ walked_at (next_of packet.start) hs e longer.captured_len packet.original_len (time_of packet)
longer_is packet longer hs e is i =
    walked_at (next_of (is.start i)) hs e longer.captured_len (is.original i) (option_map nanoseconds_of (is.time i))

-- the end of a list of bytes
end_bytes : (front rest : List ℕ) → IsBytes (front ++ rest) → IsBytes rest
end_bytes [] rest ok = ok
end_bytes (b ∷ front) rest ok = end_bytes front rest (IsBytes-tail b (front ++ rest) ok)

-- what holds at the completions of a packet holds at those of it with more bytes
longer_so : (packet longer : Packet) (b : Bool) (x : Expression) → asks_captured x ≡ false → IsLonger packet longer
    → IsBytes longer.frame.now
    → packet.captured_len < packet.original_len → longer.captured_len < longer.original_len
    → AtCompletions packet (IsSo b x) → AtCompletions longer (IsSo b x)
longer_so packet longer b x none is bytes cut still all more hs e c walk =
    let start : Walk (start_of packet.start) (longer.frame.now ++ more) hs e =
    subst (λ (s : Start). Walk (start_of s) (longer.frame.now ++ more) hs e) is.start walk in
    let list : longer.frame.now ++ more ≡ packet.frame.now ++ (is.more ++ more) =
    ap (λ (l : List ℕ). l ++ more) is.frame ∙ append_assoc packet.frame.now is.more more in
    let there = subst (λ (l : List ℕ). Walk (start_of packet.start) l hs e) list start in
    let captured = is.captured in
    let original = is.original in
    let len = length-append is.more more in
    let rest = c.all in
    let added = end_bytes packet.frame.now is.more (subst IsBytes is.frame bytes) in
    let ok : IsBytes (is.more ++ more) = IsBytes-append is.more more added c.are_bytes in
    let here = all (is.more ++ more) hs e (record { are_bytes = ok; all = omega arith }) there in
    subst (IsSo b x) (sym (longer_is packet longer hs e is))
    (so_at b x (next_of packet.start) hs e packet.captured_len longer.captured_len packet.original_len (time_of packet)
    none cut (omega arith) here)

never_so : (b : Bool) (x : Expression) (w : Walked) → IsSo b x w → IsSo (not b) x w → ⊥
never_so true x w h never = never h
never_so false x w never h = never h

known_else : (packet longer : Packet) (hs ks : List Header) (e f : Ending) (b : Bool) (x : Expression)
    → IsBytes packet.frame.now → IsBytes longer.frame.now → Walk (start_of packet.start) packet.frame.now hs e
    → Walk (start_of longer.start) longer.frame.now ks f → IsLonger packet longer
    → longer.captured_len < longer.original_len → asks_captured x ≡ false
    → Knows packet hs e b x → Knows longer ks f (not b) x → ⊥
known_else packet longer hs ks e f b x ok bytes s t is still none k l =
    let captured = is.captured in
    let original = is.original in
    let a = longer_so packet longer b x none is bytes (omega arith) still
    (knows_so packet hs e x b (fields_agree packet hs e ok s) k) in
    let c = knows_so longer ks f x (not b) (fields_agree longer ks f bytes t) l in
    let some = some_completed longer bytes in
    never_so b x (walked longer some.headers some.ending)
    (a some.more some.headers some.ending some.completes some.walk)
    (c some.more some.headers some.ending some.completes some.walk)

-- ---- the expression

-- everything that a step needs
record Waits (packet longer : Packet) (hs ks : List Header) (e f : Ending) : Type 0 where
  ok : IsBytes packet.frame.now
  bytes : IsBytes longer.frame.now
  walk : Walk (start_of packet.start) packet.frame.now hs e
  longer_walk : Walk (start_of longer.start) longer.frame.now ks f
  is_longer : IsLonger packet longer
  still : longer.captured_len < longer.original_len

else_in : (packet longer : Packet) (hs ks : List Header) (e f : Ending) (b : Bool) (x : Expression)
    → Waits packet longer hs ks e f → asks_captured x ≡ false → Knows packet hs e b x → Knows longer ks f (not b) x → ⊥
else_in packet longer hs ks e f b x w =
    known_else packet longer hs ks e f b x w.ok w.bytes w.walk w.longer_walk w.is_longer w.still

left_waits : (packet longer : Packet) (hs ks : List Header) (e f : Ending) (o : Operator) (x y : Expression)
    → Waits packet longer hs ks e f → asks_captured x ≡ false → Knows packet hs e (neutral o) x → IsUnknown longer ks
    f y
    → IsUnknown longer ks f (Join o x y)
left_waits packet longer hs ks e f operators.And x y w none k u = record {
  not_true = λ both. u.not_true both.1;
  not_false = λ some. elim some [
    | inl fails ↦ else_in packet longer hs ks e f true x w none k fails
    | inr fails ↦ u.not_false fails
  ];
}
left_waits packet longer hs ks e f operators.Or x y w none k u = record {
  not_true = λ some. elim some [
    | inl holds ↦ else_in packet longer hs ks e f false x w none k holds
    | inr holds ↦ u.not_true holds
  ];
  not_false = λ both. u.not_false both.1;
}

right_waits : (packet longer : Packet) (hs ks : List Header) (e f : Ending) (o : Operator) (x y :
    Expression)
    → Waits packet longer hs ks e f → asks_captured y ≡ false → IsUnknown longer ks f x → Knows packet hs e (neutral
    o) y
    → IsUnknown longer ks f (Join o x y)
right_waits packet longer hs ks e f operators.And x y w none u k = record {
  not_true = λ both. u.not_true both.0;
  not_false = λ some. elim some [
    | inl fails ↦ u.not_false fails
    | inr fails ↦ else_in packet longer hs ks e f true y w none k fails
  ];
}
right_waits packet longer hs ks e f operators.Or x y w none u k = record {
  not_true = λ some. elim some [
    | inl holds ↦ u.not_true holds
    | inr holds ↦ else_in packet longer hs ks e f false y w none k holds
  ];
  not_false = λ both. u.not_false both.0;
}

test_waits : (packet longer : Packet) (hs ks : List Header) (e f : Ending) (n : ℕ) (p : Primitive)
    → Waits packet longer hs ks e f → length longer.frame.now < n → NeedsTest packet hs e n p
    → IsUnknown longer ks f (Test p)
test_waits packet longer hs ks e f n (primitives.Field t) w lt u =
    let never = field_waits packet longer hs ks e f n t w.walk w.longer_walk w.is_longer lt u.1 u.0 in
    record { not_true = λ k. never k.0; not_false = λ k. never k.0 }
test_waits packet longer hs ks e f n p w lt u =
    undecided_unknown longer ks f p refl
    (u.1.stays longer (has_more packet longer p n w.is_longer w.bytes lt u.1) lt)

waits_in : (packet longer : Packet) (hs ks : List Header) (e f : Ending) (n : ℕ) (x : Expression)
    → Waits packet longer hs ks e f → asks_captured x ≡ false → length longer.frame.now < n → NeedsLen packet hs e n x
    → IsUnknown longer ks f x
waits_in packet longer hs ks e f n (Test p) w none lt u = test_waits packet longer hs ks e f n p w lt u
waits_in packet longer hs ks e f n (Not x) w none lt u =
    let v = waits_in packet longer hs ks e f n x w none lt u in
    record { not_true = v.not_false; not_false = v.not_true }
waits_in packet longer hs ks e f n (Join o x y) w none lt (inl u) =
    let two = or_parts (asks_captured x) (asks_captured y) none in
    left_waits packet longer hs ks e f o x y w two.0 u.0 (waits_in packet longer hs ks e f n y w two.1 lt u.1)
waits_in packet longer hs ks e f n (Join o x y) w none lt (inr (inl u)) =
    let two = or_parts (asks_captured x) (asks_captured y) none in
    right_waits packet longer hs ks e f o x y w two.1 (waits_in packet longer hs ks e f n x w two.0 lt u.0) u.1
waits_in packet longer hs ks e f n (Join o x y) w none lt (inr (inr u)) =
    let two = or_parts (asks_captured x) (asks_captured y) none in
    let least = u.4 in
    both_unknown longer ks f o x y (waits_in packet longer hs ks e f u.0 x w two.0 (omega arith) u.2)
    (waits_in packet longer hs ks e f u.1 y w two.1 (omega arith) u.3)

-- an expression that needs n bytes is unknown while there are fewer
pub needs_all : (packet longer : Packet) (hs ks : List Header) (e f : Ending) (n : ℕ) (x : Expression)
    → IsBytes packet.frame.now → IsBytes longer.frame.now → Walk (start_of packet.start) packet.frame.now hs e
    → Walk (start_of longer.start) longer.frame.now ks f → asks_captured x ≡ false
    → IsLonger packet longer → length longer.frame.now < n → NeedsLen packet hs e n x → IsUnknown longer ks f x
needs_all packet longer hs ks e f n x ok bytes s t none is lt u =
    waits_in packet longer hs ks e f n x (record {
      ok = ok;
      bytes = bytes;
      walk = s;
      longer_walk = t;
      is_longer = is;
      still = needs_cut packet longer hs e n x is bytes lt u;
    }) none lt u
