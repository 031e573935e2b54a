-- What is known of whether a packet matches, if not all of its bytes were captured.
use Rattle.std.specs.Prelude.{◌≡◌, ℕ, ◌+◌, ◌-◌, ◌<◌, ◌≤◌, List, length, Bool, true, false, not, IsTrue, ◌⊎◌, nat_eq, nat_le, min, ◌||◌, ◌&&◌}
use Rattle.etherparse.specs.Types.Layer.{Layer}
use Rattle.etherparse.specs.Types.Layer.TheVariants as layers
use Rattle.etherparse.specs.Bytes.{IsBytes}
use Rattle.etherparse.specs.Header.{Header}
use Rattle.ether_peel.specs.Grammar.Expectation.{has_fcs}
use Rattle.ether_peel.specs.Grammar.Stack.{Ending, Walk}
use Rattle.ether_peel.specs.Grammar.Endings.{OpenRefusal, named_len}
use Rattle.ether_peel.specs.Walker.Start.{start_of}
use Rattle.ether_filter.specs.declared.decision.Decision.{Decision}
use Rattle.ether_filter.specs.declared.decision.Decision.TheVariants as decisions
use Rattle.ether_filter.specs.FieldTests.{field_holds}
use Rattle.ether_filter.specs.declared.field_test.FieldTest.{FieldTest}
use Rattle.ether_filter.specs.declared.field_test.Relation.{Relation}
use Rattle.ether_filter.specs.declared.field_test.Relation.TheVariants as relations
use Rattle.ether_filter.specs.declared.node.Operator.{Operator}
use Rattle.ether_filter.specs.declared.node.Operator.TheVariants as operators
use Rattle.ether_filter.specs.declared.packet.Packet.{Packet}
use Rattle.ether_filter.specs.declared.primitive.Primitive.{Primitive}
use Rattle.ether_filter.specs.declared.primitive.Primitive.TheVariants as primitives
use Rattle.ether_filter.specs.Primitives.{Matches}
use Rattle.ether_filter.specs.Expressions.{Expression, Test, Not, Join}
use Rattle.ether_filter.specs.Prospects.{AtCompletions}
use Rattle.ether_filter.specs.Needed.{IsUndecided, IsLeast, IsLonger}

-- ---- the bytes that are missing

-- the number of missing bytes
abbrev pub lost : Packet → ℕ
lost packet = packet.original_len - packet.captured_len

-- A packet whose walk has this ending is open at n bytes: if its frame had that many, the packet might have further
-- headers.
pub data IsOpenAt (packet : Packet) (e : Ending) (n : ℕ) : Type 0 where
  -- the walk ends in an open refusal that names n, and the packet had at least n bytes on the wire
  refused : (o : OpenRefusal e) → packet.captured_len < packet.original_len → named_len e o ≡ n → n
      ≤ length packet.frame.now + lost packet
      → IsOpenAt packet e n
  -- the packet has a frame check sequence, whose place is known only in the whole frame
  fcs : has_fcs (start_of packet.start) ≡ true → packet.captured_len < packet.original_len → n ≡ length packet.frame.now
      + lost packet
      → IsOpenAt packet e n

-- ---- a primitive

-- the primitive asks what the capture says of the packet, as its two lengths
abbrev pub is_of_lengths : Primitive → Bool
is_of_lengths primitives.Cut = true
is_of_lengths (primitives.Less n) = true
is_of_lengths (primitives.Greater n) = true
is_of_lengths (primitives.Frame t) = true
is_of_lengths _ = false

-- the primitive asks about an Ethernet II header, whose fields have the numbers up to 3
abbrev pub is_of_link : Primitive → Bool
is_of_link (primitives.Source address) = true
is_of_link (primitives.Destination address) = true
is_of_link (primitives.Host address) = true
is_of_link primitives.Broadcast = true
is_of_link primitives.Multicast = true
is_of_link (primitives.Field t) = nat_le t.field 3
is_of_link _ = false

abbrev pub is_refused : Primitive → Bool
is_refused primitives.Refused = true
is_refused _ = false

-- the primitive tests a field
abbrev pub is_of_field : Primitive → Bool
is_of_field (primitives.Field t) = true
is_of_field _ = false

-- a test with this relation asks whether any value has it
abbrev pub asks_any : Relation → Bool
asks_any relations.NotEqual = false
asks_any _ = true

-- ---- a test of a field

-- The test can depend on a unit of this layer, or on one after it. Fields with the numbers up to 3 are of an Ethernet
-- II
-- header, which is the first unit.
abbrev pub can_tell : Layer → FieldTest → Bool
can_tell layers.Ethernet2Header t = true
can_tell layer t = not (nat_le t.field 3)

-- With these headers and this ending so far, it is known whether the test of a field holds: no further headers can
-- follow; or the headers so far have a value that decides it; or it does not depend on any unit that can still follow.
pub data IsFieldKnown (packet : Packet) (hs : List Header) (e : Ending) (t : FieldTest) : Type 0 where
  whole : ((n : ℕ) → IsOpenAt packet e n → ⊥) → IsFieldKnown packet hs e t
  told : has_fcs (start_of packet.start) ≡ false → IsTrue (asks_any t.relation && field_holds t hs)
      → IsFieldKnown packet hs e t
  passed : (o : OpenRefusal e) → can_tell o.layer t ≡ false → IsFieldKnown packet hs e t

-- ---- what is known

-- Whatever the missing bytes are, the primitive matches the packet (true), or it does not (false). Of a test of a field
-- it is known by the headers so far.
abbrev pub KnowsTest : Packet → List Header → Ending → Bool → Primitive → Type 0
KnowsTest packet hs e true (primitives.Field t) = IsFieldKnown packet hs e t × IsTrue (field_holds t hs)
KnowsTest packet hs e false (primitives.Field t) = IsFieldKnown packet hs e t × ¬ (IsTrue (field_holds t hs))
KnowsTest packet hs e true primitive = AtCompletions packet (Matches primitive)
KnowsTest packet hs e false primitive = AtCompletions packet (λ w. ¬ (Matches primitive w))

-- an expression is known to hold (true) or to fail (false), in Kleene's strong logic of three values
abbrev pub Knows : Packet → List Header → Ending → Bool → Expression → Type 0
Knows packet hs e truth (Test primitive) = KnowsTest packet hs e truth primitive
Knows packet hs e true (Not x) = Knows packet hs e false x
Knows packet hs e false (Not x) = Knows packet hs e true x
Knows packet hs e true (Join operators.And x y) = Knows packet hs e true x × Knows packet hs e true y
Knows packet hs e false (Join operators.And x y) = Knows packet hs e false x ⊎ Knows packet hs e false y
Knows packet hs e true (Join operators.Or x y) = Knows packet hs e true x ⊎ Knows packet hs e true y
Knows packet hs e false (Join operators.Or x y) = Knows packet hs e false x × Knows packet hs e false y

-- it is known neither to hold nor to fail
pub record IsUnknown (packet : Packet) (hs : List Header) (e : Ending) (x : Expression) : Type 0 where
  pub not_true : Knows packet hs e true x → ⊥
  pub not_false : Knows packet hs e false x → ⊥

-- ---- what is needed

-- The missing bytes make the primitive match or fail, and n is the least length with which it can be decided. A test of
-- a field needs the length with which the packet might have further headers.
abbrev pub NeedsTest : Packet → List Header → Ending → ℕ → Primitive → Type 0
NeedsTest packet hs e n (primitives.Field t) = (IsFieldKnown packet hs e t → ⊥) × IsOpenAt packet e n
NeedsTest packet hs e n primitive = IsUndecided packet primitive × IsLeast packet primitive n

-- the truth of an operand that leaves the other's
abbrev pub neutral : Operator → Bool
neutral operators.And = true
neutral operators.Or = false

-- an expression needs the least of what those of its primitives need that can still decide it
abbrev pub NeedsLen : Packet → List Header → Ending → ℕ → Expression → Type 0
NeedsLen packet hs e n (Test primitive) = NeedsTest packet hs e n primitive
NeedsLen packet hs e n (Not x) = NeedsLen packet hs e n x
NeedsLen packet hs e n (Join operator x y) =
    (Knows packet hs e (neutral operator) x × NeedsLen packet hs e n y)
    ⊎ (NeedsLen packet hs e n x × Knows packet hs e (neutral operator) y)
    ⊎ ((a : ℕ) × (b : ℕ) × NeedsLen packet hs e a x × NeedsLen packet hs e b y × (n ≡ min a b))

-- what each decision says
abbrev pub Says : Packet → List Header → Ending → Expression → Decision → Type 0
Says packet hs e x decisions.Matches = Knows packet hs e true x
Says packet hs e x decisions.Fails = Knows packet hs e false x
Says packet hs e x (decisions.Needs n) = NeedsLen packet hs e n x

-- ---- until the length is there

-- the expression asks for the captured length
abbrev pub is_of_captured : Primitive → Bool
is_of_captured (primitives.Frame t) = nat_eq t.field 254
is_of_captured _ = false

abbrev pub asks_captured : Expression → Bool
asks_captured (Test p) = is_of_captured p
asks_captured (Not x) = asks_captured x
asks_captured (Join operator x y) = asks_captured x || asks_captured y

-- while fewer than n bytes of the packet's frame are captured, the expression is still unknown, unless it asks for
-- their
-- number
abbrev pub StaysUnknown : Packet → ℕ → Expression → Type 0
StaysUnknown packet n x =
    (longer : Packet) (hs : List Header) (e : Ending) → asks_captured x ≡ false
    → IsLonger packet longer → IsBytes longer.frame.now → length longer.frame.now < n
    → Walk (start_of longer.start) longer.frame.now hs e → IsUnknown longer hs e x
