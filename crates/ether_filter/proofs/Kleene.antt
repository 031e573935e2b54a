-- The decisions on expressions by Kleene's tables.
use Rattle.std.proofs.Common.{◌≡◌, ℕ, ◌-◌, List, ◌++◌, refl, Bool, true, false, inl, inr}
use Rattle.std.specs.Prelude.{replicate}
use Rattle.etherparse.specs.Bytes.{IsBytes}
use Rattle.etherparse.proofs.Numbers.{IsBytes-append}
use Rattle.etherparse.specs.Header.{Header}
use Rattle.ether_peel.specs.Grammar.Stack.{Ending, whole}
use Rattle.ether_peel.specs.Walker.Start.{start_of}
use Rattle.ether_peel.proofs.Grammar.Stacks.{some_stack}
use Rattle.ether_filter.specs.declared.decision.Decision.{Decision}
use Rattle.ether_filter.specs.declared.decision.Decision.TheVariants.{Matches, Fails, Needs}
use Rattle.ether_filter.specs.declared.field_test.FieldTest.{FieldTest}
use Rattle.ether_filter.specs.declared.node.Operator.{Operator}
use Rattle.ether_filter.specs.declared.node.Operator.TheVariants as operators
use Rattle.ether_filter.specs.declared.packet.Packet.{Packet}
use Rattle.ether_filter.specs.declared.primitive.Primitive.{Primitive}
use Rattle.ether_filter.specs.declared.primitive.Primitive.TheVariants as primitives
use Rattle.ether_filter.specs.Primitives as primitive
use Rattle.ether_filter.specs.Primitives.{Walked, walked}
use Rattle.ether_filter.specs.Expressions.{Expression, Test, Not, Join, Holds}
use Rattle.ether_filter.specs.Prospects.{AtCompletions}
use Rattle.ether_filter.specs.Later.{SomeCompletion}
use Rattle.ether_filter.specs.Needed.{IsUndecided}
use Rattle.ether_filter.specs.Deciding.{is_of_field, neutral, Knows, KnowsTest, IsUnknown, NeedsLen, NeedsTest, Says}
use Rattle.ether_filter.specs.Evaluation.{joined_decision, negated_decision}
use Rattle.ether_filter.proofs.SeenOutcomes.{some_completion}

-- what a truth says of an expression
abbrev pub IsSo : Bool → Expression → Walked → Type 0
IsSo true x w = Holds x w
IsSo false x w = Holds x w → ⊥

-- what is known of a primitive that tests no field
pub exact_known : (packet : Packet) (hs : List Header) (e : Ending) (b : Bool) (p : Primitive) → is_of_field p ≡ false
    → KnowsTest packet hs e b p → AtCompletions packet (IsSo b (Test p))
exact_known packet hs e true (primitives.Field t) free k = absurd cc
exact_known packet hs e false (primitives.Field t) free k = absurd cc
exact_known packet hs e true p free k = k
exact_known packet hs e false p free k = k

pub known_exact : (packet : Packet) (hs : List Header) (e : Ending) (b : Bool) (p : Primitive) → is_of_field p ≡ false
    → AtCompletions packet (IsSo b (Test p)) → KnowsTest packet hs e b p
known_exact packet hs e true (primitives.Field t) free k = absurd cc
known_exact packet hs e false (primitives.Field t) free k = absurd cc
known_exact packet hs e true p free k = k
known_exact packet hs e false p free k = k

-- a packet can be completed
pub some_completed : (packet : Packet) → IsBytes packet.frame.now → SomeCompletion packet (λ w. Unit {0})
some_completed packet ok =
    let c = some_completion packet in
    let list = packet.frame.now ++ replicate (packet.original_len - packet.captured_len) 0 in
    let s = some_stack list (start_of packet.start) (whole (start_of packet.start) list)
    (IsBytes-append packet.frame.now _ ok c.are_bytes) in
    record { more = _; headers = s.0; ending = s.1; completes = c; walk = s.2; holds = tt }

-- nothing holds and fails at all completions
pub never_both : (packet : Packet) (Is : Walked → Type 0) → IsBytes packet.frame.now → AtCompletions packet Is
    → AtCompletions packet (λ w. Is w → ⊥) → ⊥
never_both packet Is ok all none =
    let s = some_completed packet ok in
    none s.more s.headers s.ending s.completes s.walk (all s.more s.headers s.ending s.completes s.walk)

-- ---- what is known is not known otherwise

exclusive_test : (packet : Packet) (hs : List Header) (e : Ending) (p : Primitive) → IsBytes packet.frame.now
    → KnowsTest packet hs e true p → KnowsTest packet hs e false p → ⊥
exclusive_test packet hs e (primitives.Field t) ok k l = l.1 k.1
exclusive_test packet hs e p ok k l = never_both packet (primitive.Matches p) ok k l

pub exclusive : (packet : Packet) (hs : List Header) (e : Ending) (x : Expression) → IsBytes packet.frame.now
    → Knows packet hs e true x → Knows packet hs e false x → ⊥
exclusive packet hs e (Test p) ok t f = exclusive_test packet hs e p ok t f
exclusive packet hs e (Not x) ok t f = exclusive packet hs e x ok f t
exclusive packet hs e (Join operators.And x y) ok t (inl f) = exclusive packet hs e x ok t.0 f
exclusive packet hs e (Join operators.And x y) ok t (inr f) = exclusive packet hs e y ok t.1 f
exclusive packet hs e (Join operators.Or x y) ok (inl t) f = exclusive packet hs e x ok t f.0
exclusive packet hs e (Join operators.Or x y) ok (inr t) f = exclusive packet hs e y ok t f.1

-- a primitive that some completed packet matches and some does not
pub undecided_unknown : (packet : Packet) (hs : List Header) (e : Ending) (p : Primitive) → is_of_field p ≡ false
    → IsUndecided packet p → IsUnknown packet hs e (Test p)
undecided_unknown packet hs e p free u = record {
  not_true = λ k. u.1.holds
      (exact_known packet hs e true p free k u.1.more u.1.headers u.1.ending u.1.completes u.1.walk);
  not_false = λ k.
      exact_known packet hs e false p free k u.0.more u.0.headers u.0.ending u.0.completes u.0.walk u.0.holds;
}

test_unknown : (packet : Packet) (hs : List Header) (e : Ending) (n : ℕ) (p : Primitive)
    → NeedsTest packet hs e n p → IsUnknown packet hs e (Test p)
test_unknown packet hs e n (primitives.Field t) u = record { not_true = λ k. u.0 k.0; not_false = λ k. u.0 k.0 }
test_unknown packet hs e n p u = undecided_unknown packet hs e p refl u.0

-- an operand that leaves the other's truth, and one that is unknown
left_unknown : (packet : Packet) (hs : List Header) (e : Ending) (operator : Operator) (x y : Expression)
    → IsBytes packet.frame.now → Knows packet hs e (neutral operator) x → IsUnknown packet hs e y
    → IsUnknown packet hs e (Join operator x y)
left_unknown packet hs e operators.And x y ok k u = record {
  not_true = λ both. u.not_true both.1;
  not_false = λ some. elim some [ inl f ↦ exclusive packet hs e x ok k f | inr f ↦ u.not_false f ];
}
left_unknown packet hs e operators.Or x y ok k u = record {
  not_true = λ some. elim some [ inl t ↦ exclusive packet hs e x ok t k | inr t ↦ u.not_true t ];
  not_false = λ both. u.not_false both.1;
}

right_unknown : (packet : Packet) (hs : List Header) (e : Ending) (operator : Operator) (x y : Expression)
    → IsBytes packet.frame.now → IsUnknown packet hs e x → Knows packet hs e (neutral operator) y
    → IsUnknown packet hs e (Join operator x y)
right_unknown packet hs e operators.And x y ok u k = record {
  not_true = λ both. u.not_true both.0;
  not_false = λ some. elim some [ inl f ↦ u.not_false f | inr f ↦ exclusive packet hs e y ok k f ];
}
right_unknown packet hs e operators.Or x y ok u k = record {
  not_true = λ some. elim some [ inl t ↦ u.not_true t | inr t ↦ exclusive packet hs e y ok t k ];
  not_false = λ both. u.not_false both.0;
}

pub both_unknown : (packet : Packet) (hs : List Header) (e : Ending) (operator : Operator) (x y : Expression)
    → IsUnknown packet hs e x → IsUnknown packet hs e y → IsUnknown packet hs e (Join operator x y)
both_unknown packet hs e operators.And x y u v = record {
  not_true = λ both. u.not_true both.0;
  not_false = λ some. elim some [ inl f ↦ u.not_false f | inr f ↦ v.not_false f ];
}
both_unknown packet hs e operators.Or x y u v = record {
  not_true = λ some. elim some [ inl t ↦ u.not_true t | inr t ↦ v.not_true t ];
  not_false = λ both. u.not_false both.0;
}

-- an expression that needs bytes is unknown
pub needs_unknown : (packet : Packet) (hs : List Header) (e : Ending) (n : ℕ) (x : Expression)
    → IsBytes packet.frame.now → NeedsLen packet hs e n x → IsUnknown packet hs e x
needs_unknown packet hs e n (Test p) ok u = test_unknown packet hs e n p u
needs_unknown packet hs e n (Not x) ok u =
    let v = needs_unknown packet hs e n x ok u in record { not_true = v.not_false; not_false = v.not_true }
needs_unknown packet hs e n (Join operator x y) ok (inl u) =
    left_unknown packet hs e operator x y ok u.0 (needs_unknown packet hs e n y ok u.1)
needs_unknown packet hs e n (Join operator x y) ok (inr (inl u)) =
    right_unknown packet hs e operator x y ok (needs_unknown packet hs e n x ok u.0) u.1
needs_unknown packet hs e n (Join operator x y) ok (inr (inr (a, b, u, v, is))) =
    both_unknown packet hs e operator x y (needs_unknown packet hs e a x ok u) (needs_unknown packet hs e b y ok v)

-- ---- the tables

pub negated_says : (packet : Packet) (hs : List Header) (e : Ending) (x : Expression) (d : Decision)
    → Says packet hs e x d → Says packet hs e (Not x) (negated_decision d)
negated_says packet hs e x Matches t = t
negated_says packet hs e x Fails f = f
negated_says packet hs e x (Needs n) u = u

pub joined_says : (packet : Packet) (hs : List Header) (e : Ending) (operator : Operator) (x y : Expression)
    (a b : Decision) → Says packet hs e x a → Says packet hs e y b
    → Says packet hs e (Join operator x y) (joined_decision operator a b)
joined_says packet hs e operators.And x y Fails b f v = inl f
joined_says packet hs e operators.And x y Matches Fails t f = inr f
joined_says packet hs e operators.And x y (Needs n) Fails u f = inr f
joined_says packet hs e operators.And x y Matches Matches t u = (t, u)
joined_says packet hs e operators.And x y Matches (Needs n) t u = inl (t, u)
joined_says packet hs e operators.And x y (Needs n) Matches u t = inr (inl (u, t))
joined_says packet hs e operators.And x y (Needs n) (Needs m) u v = inr (inr (n, m, u, v, refl))
joined_says packet hs e operators.Or x y Matches b t v = inl t
joined_says packet hs e operators.Or x y Fails Matches f t = inr t
joined_says packet hs e operators.Or x y (Needs n) Matches u t = inr t
joined_says packet hs e operators.Or x y Fails Fails f g = (f, g)
joined_says packet hs e operators.Or x y Fails (Needs n) f u = inl (f, u)
joined_says packet hs e operators.Or x y (Needs n) Fails u f = inr (inl (u, f))
joined_says packet hs e operators.Or x y (Needs n) (Needs m) u v = inr (inr (n, m, u, v, refl))

-- ---- what is known of an expression is so at each completion

-- .. if what is known of tests of fields is
abbrev pub FieldsAgree : Packet → List Header → Ending → Type 0
FieldsAgree packet hs e =
    (t : FieldTest) (b : Bool) → KnowsTest packet hs e b (primitives.Field t)
    → AtCompletions packet (IsSo b (Test (primitives.Field t)))

test_so : (packet : Packet) (hs : List Header) (e : Ending) (p : Primitive) (b : Bool) → FieldsAgree packet hs e
    → KnowsTest packet hs e b p → AtCompletions packet (IsSo b (Test p))
test_so packet hs e (primitives.Field t) b fields k = fields t b k
test_so packet hs e p true fields k = k
test_so packet hs e p false fields k = k

pub knows_so : (packet : Packet) (hs : List Header) (e : Ending) (x : Expression) (b : Bool)
    → FieldsAgree packet hs e → Knows packet hs e b x → AtCompletions packet (IsSo b x)
knows_so packet hs e (Test p) b fields k = test_so packet hs e p b fields k
knows_so packet hs e (Not x) true fields k = knows_so packet hs e x false fields k
knows_so packet hs e (Not x) false fields k =
    λ more ks f c walk never. never (knows_so packet hs e x true fields k more ks f c walk)
knows_so packet hs e (Join operators.And x y) true fields k =
    λ more ks f c walk. (
      knows_so packet hs e x true fields k.0 more ks f c walk,
      knows_so packet hs e y true fields k.1 more ks f c walk,
    )
knows_so packet hs e (Join operators.And x y) false fields (inl k) =
    λ more ks f c walk h. knows_so packet hs e x false fields k more ks f c walk h.0
knows_so packet hs e (Join operators.And x y) false fields (inr k) =
    λ more ks f c walk h. knows_so packet hs e y false fields k more ks f c walk h.1
knows_so packet hs e (Join operators.Or x y) true fields (inl k) =
    λ more ks f c walk. inl (knows_so packet hs e x true fields k more ks f c walk)
knows_so packet hs e (Join operators.Or x y) true fields (inr k) =
    λ more ks f c walk. inr (knows_so packet hs e y true fields k more ks f c walk)
knows_so packet hs e (Join operators.Or x y) false fields k =
    λ more ks f c walk h. elim h [
      | inl h ↦ knows_so packet hs e x false fields k.0 more ks f c walk h
      | inr h ↦ knows_so packet hs e y false fields k.1 more ks f c walk h
    ]
