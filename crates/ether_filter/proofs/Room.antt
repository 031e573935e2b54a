-- One more word needs room for one more node, or one more thing that is open.
use Rattle.std.proofs.Common.{◌≡◌, ℕ, ◌+◌, ◌≤◌, List, [], ◌∷◌, ◌++◌, length, subst, length-append, if◌then◌else◌, arith}
use Rattle.std.specs.Prelude.{Ok, Err, Bool, true, false}
use Rattle.ether_filter.specs.declared.node.Operator.{Operator}
use Rattle.ether_filter.specs.declared.node.Node.{Node}
use Rattle.ether_filter.specs.declared.node.Node.TheVariants as nodes
use Rattle.ether_filter.specs.declared.primitive.Primitive.TheVariants as primitives
use Rattle.ether_filter.specs.declared.token.Token.{Token}
use Rattle.ether_filter.specs.declared.token.Token.TheVariants as tokens
use Rattle.ether_filter.specs.declared.filter_error.FilterErrorKind.TheVariants as kinds
use Rattle.ether_filter.specs.declared.awaited.Numbered.TheVariants as numbers
use Rattle.ether_filter.specs.declared.awaited.Awaited.{Awaited}
use Rattle.ether_filter.specs.declared.awaited.Awaited.TheVariants as awaits
use Rattle.ether_filter.specs.declared.awaited.Step.{Step}
use Rattle.ether_filter.specs.declared.awaited.Step.TheVariants.{Done, More, Fails}
use Rattle.ether_filter.specs.declared.reading.Pending.{Pending}
use Rattle.ether_filter.specs.declared.reading.Pending.TheVariants as pendings
use Rattle.ether_filter.specs.declared.subject.Subject.{Subject}
use Rattle.ether_filter.specs.Subjects.{existence_of, tested}
use Rattle.std.specs.Prelude.{Option, Some, None, nat_lt}
use Rattle.std.proofs.Common.{inl, inr}
use Rattle.ether_filter.specs.declared.awaited.Numbered.{Numbered}
use Rattle.ether_filter.specs.declared.field_test.Relation.{Relation}
use Rattle.ether_filter.specs.declared.node.Operator.TheVariants.{Or}
use Rattle.ether_filter.specs.declared.primitive.Primitive.{Primitive}
use Rattle.ether_filter.specs.declared.subject.Literal.{Literal}
use Rattle.ether_filter.proofs.Sound.{decided}
use Rattle.ether_filter.specs.Steps.{first_step, next_step, numbered, most_of, value_for, masked, related, member}
use Rattle.ether_filter.specs.ExpressionReading.{ExpressionState, Outcome, closed, differ, joined_by, closed_group, operator_taken, stepped, member_taken, joined_member, taken_where, taken, is_begun, size_of}

abbrev pub TakesAtMost : Outcome → ℕ → Type 0
TakesAtMost (Ok s) n = size_of s ≤ n
TakesAtMost (Err kind) n = Unit {0}

closed_room : (ns : List Node) (p : List Pending) → size_of (closed ns p) ≡ length ns + length p
closed_room ns [] = omega arith
closed_room ns (pendings.Open ∷ p) = omega arith
closed_room ns (pendings.Not ∷ p) = let rest = closed_room (ns ++ nodes.Not ∷ []) p
    in let len = length-append ns (nodes.Not ∷ []) in omega arith
closed_room ns (pendings.Join operator ∷ p) = omega arith

-- what is awaited after a step has room for one more node
abbrev HasRoom : Step → Type 0
HasRoom (More next) = is_begun next ≤ 1
HasRoom _ = Unit {0}

first_room : (t : Token) → HasRoom (first_step t)
first_room tokens.Vlan = omega arith
first_room tokens.Outer = omega arith
first_room tokens.Inner = omega arith
first_room tokens.Ether = omega arith
first_room tokens.Less = omega arith
first_room tokens.Greater = omega arith
first_room (tokens.Field f) = omega arith
first_room t = tt

numbered_room : (of : Numbered) (n : ℕ) → HasRoom (numbered of n)
numbered_room of n = elim (decided (nat_lt (most_of of) n)) [
  | inl above ↦ rw above tt
  | inr below ↦ rw below tt
]

masked_room : (f : Subject) (o : Option Literal) → HasRoom (masked f o)
masked_room f None = tt
masked_room f (Some mask) = omega arith

related_room : (f : Subject) (mask : ℕ) (r : Relation) (o : Option Literal) → HasRoom (related f mask r o)
related_room f mask r None = tt
related_room f mask r (Some value) = tt

abbrev IsNoEnd : Awaited → Type 0
IsNoEnd (awaits.SetEnd f mask) = ⊥
IsNoEnd _ = Unit {0}

next_room : (a : Awaited) (t : Token) → IsNoEnd a → HasRoom (next_step a t)
next_room (awaits.Vlan of) tokens.Vlan un = omega arith
next_room (awaits.Number of) (tokens.Number (Some n)) un = numbered_room of n
next_room (awaits.Address of) (tokens.Address a) un = tt
next_room awaits.EtherWord tokens.Proto un = omega arith
next_room awaits.EtherWord tokens.Src un = omega arith
next_room awaits.EtherWord tokens.Dst un = omega arith
next_room awaits.EtherWord tokens.Host un = omega arith
next_room awaits.EtherWord tokens.Broadcast un = tt
next_room awaits.EtherWord tokens.Multicast un = tt
next_room (awaits.Relation f) tokens.Mask un = omega arith
next_room (awaits.Relation f) (tokens.Relation r) un = omega arith
next_room (awaits.Relation f) tokens.In un = omega arith
next_room (awaits.MaskedRelation f mask) (tokens.Relation r) un = omega arith
next_room (awaits.MaskedRelation f mask) tokens.In un = omega arith
next_room (awaits.Set f mask) tokens.OpenSet un = omega arith
next_room (awaits.SetEnd f mask) t un = absurd un
next_room (awaits.Mask f) t un = masked_room f (value_for f.takes t)
next_room (awaits.Value f mask r) t un = related_room f mask r (value_for f.takes t)
next_room a t un = tt

stepped_room : (ns : List Node) (p : List Pending) (a : Awaited) (step : Step) → HasRoom step
    → TakesAtMost (stepped (record { nodes = ns; pending = p; awaited = a }) step) (length ns + length p + 1)
stepped_room ns p a (Done q) one = let room = closed_room (ns ++ nodes.Test q ∷ []) p
    in let len = length-append ns (nodes.Test q ∷ []) in omega arith
stepped_room ns p a (More next) one = omega (arith, one)
stepped_room ns p a Fails one = tt

chosen : (b : Bool) (s : ExpressionState) (n : ℕ) → size_of s ≤ n
    → TakesAtMost (if b then Err kinds.MixedOperators else Ok s) n
chosen true s n le = tt
chosen false s n le = le

joined_room : (operator : Operator) (ns : List Node) (p : List Pending)
    → TakesAtMost (joined_by operator ns p) (length ns + length p + 1)
joined_room operator ns [] = omega arith
joined_room operator ns (pendings.Open ∷ p) = omega arith
joined_room operator ns (pendings.Not ∷ p) = omega arith
joined_room operator ns (pendings.Join last ∷ p) =
    let len = length-append ns (nodes.Join last ∷ []) in
    chosen (differ last operator)
    (record {
      nodes = ns
          ++ nodes.Join last ∷ [];
      pending = pendings.Join operator ∷ p;
      awaited = awaits.Operand;
    })
    (length ns + length (pendings.Join last ∷ p) + 1) (omega arith)

group_room : (ns : List Node) (p : List Pending) (n : ℕ) → length ns + length p ≤ n → TakesAtMost (closed_group ns p) n
group_room ns [] n le = tt
group_room ns (pendings.Open ∷ p) n le = let room = closed_room ns p in omega arith
group_room ns (q ∷ p) n le = tt

closing_room : (ns : List Node) (p : List Pending) (a : Awaited)
    → TakesAtMost (operator_taken (record { nodes = ns; pending = p; awaited = a }) tokens.Close)
    (length ns + length p + 1)
closing_room ns (pendings.Join operator ∷ p) a = let len = length-append ns (nodes.Join operator ∷ [])
    in group_room (ns ++ nodes.Join operator ∷ []) p (length ns + length (pendings.Join operator ∷ p) + 1) (omega arith)
closing_room ns [] a = tt
closing_room ns (pendings.Open ∷ p) a = group_room ns (pendings.Open ∷ p) (length ns + length (pendings.Open ∷ p) + 1)
    (omega arith)
closing_room ns (pendings.Not ∷ p) a = tt

operator_room : (s : ExpressionState) (t : Token) → TakesAtMost (operator_taken s t) (length s.nodes + length s.pending
    + 1)
operator_room s (tokens.Join operator) = joined_room operator s.nodes s.pending
operator_room s tokens.Close = closing_room s.nodes s.pending s.awaited
operator_room s t = tt

more : (o : Outcome) (n m : ℕ) → n ≤ m → TakesAtMost o n → TakesAtMost o m
more (Ok s) n m le at = omega arith
more (Err kind) n m le at = tt

-- after a field that is an operand
field_room : (f : Subject) (ns : List Node) (p : List Pending) (t : Token)
    → TakesAtMost (operator_taken (closed (ns ++ nodes.Test (tested (existence_of f)) ∷ []) p) t)
    (length ns + length p + 1 + 1)
field_room f ns p t =
    let q = tested (existence_of f) in
    let s = closed (ns ++ nodes.Test q ∷ []) p in
    let room = closed_room (ns ++ nodes.Test q ∷ []) p in
    let len = length-append ns (nodes.Test q ∷ []) in
    more (operator_taken s t) (length s.nodes + length s.pending + 1) (length ns + length p + 1 + 1) (omega arith)
    (operator_room s t)

-- after a value of a set
first_value_room : (f : Subject) (mask : ℕ) (ns : List Node) (p : List Pending) (o : Option Primitive)
    → TakesAtMost (member_taken f mask (record { nodes = ns; pending = p; awaited = awaits.FirstMember f mask }) o)
    (length ns + length p + 1 + 1)
first_value_room f mask ns p None = tt
first_value_room f mask ns p (Some q) = let len = length-append ns (nodes.Test q ∷ []) in omega (arith, len)

value_room : (f : Subject) (mask : ℕ) (ns : List Node) (p : List Pending) (o : Option Primitive)
    → TakesAtMost (joined_member
    (member_taken f mask (record { nodes = ns; pending = p; awaited = awaits.Member f mask }) o))
    (length ns + length p + 2 + 1)
value_room f mask ns p None = tt
value_room f mask ns p (Some q) =
    let len = length-append ns (nodes.Test q ∷ []) in
    let all = length-append (ns ++ nodes.Test q ∷ []) (nodes.Join Or ∷ []) in
    omega (arith, len, all)

taken_room : (a : Awaited) (ns : List Node) (p : List Pending) (t : Token)
    → TakesAtMost (taken_where a (record { nodes = ns; pending = p; awaited = a }) t)
    (length ns + length p + is_begun a + 1)
taken_room awaits.Operand ns p tokens.Not = omega arith
taken_room awaits.Operand ns p tokens.Open = omega arith
taken_room awaits.Operand ns p t = more
    (stepped (record { nodes = ns; pending = p; awaited = awaits.Operand }) (first_step t)) (length ns + length p + 1)
    (length ns + length p + 0 + 1) (omega arith) (stepped_room ns p awaits.Operand (first_step t) (first_room t))
taken_room awaits.Operator ns p t = more
    (operator_taken (record { nodes = ns; pending = p; awaited = awaits.Operator }) t) (length ns + length p + 1)
    (length ns + length p + 0 + 1) (omega arith)
    (operator_room (record { nodes = ns; pending = p; awaited = awaits.Operator }) t)
taken_room awaits.VlanId ns p (tokens.Number n) =
    more (stepped (record { nodes = ns; pending = p; awaited = awaits.VlanId })
    (next_step (awaits.Number numbers.VlanId) (tokens.Number n))) (length ns + length p + 1)
    (length ns + length p + 1 + 1) (omega arith)
    (stepped_room ns p awaits.VlanId (next_step (awaits.Number numbers.VlanId) (tokens.Number n))
    (next_room (awaits.Number numbers.VlanId) (tokens.Number n) tt))
taken_room awaits.VlanId ns p t =
    let s = closed (ns ++ nodes.Test primitives.Vlan ∷ []) p in
    let room = closed_room (ns ++ nodes.Test primitives.Vlan ∷ []) p in
    let len = length-append ns (nodes.Test primitives.Vlan ∷ []) in
    more (operator_taken s t) (length s.nodes + length s.pending + 1) (length ns + length p + 1 + 1) (omega arith)
    (operator_room s t)
taken_room (awaits.Relation f) ns p (tokens.Relation r) =
    more (stepped (record { nodes = ns; pending = p; awaited = awaits.Relation f })
    (next_step (awaits.Relation f) (tokens.Relation r))) (length ns + length p + 1)
    (length ns + length p + 1 + 1) (omega arith)
    (stepped_room ns p (awaits.Relation f) (next_step (awaits.Relation f) (tokens.Relation r)) (omega arith))
taken_room (awaits.Relation f) ns p tokens.Mask =
    more (stepped (record { nodes = ns; pending = p; awaited = awaits.Relation f })
    (next_step (awaits.Relation f) tokens.Mask)) (length ns + length p + 1)
    (length ns + length p + 1 + 1) (omega arith)
    (stepped_room ns p (awaits.Relation f) (next_step (awaits.Relation f) tokens.Mask) (omega arith))
taken_room (awaits.Relation f) ns p tokens.In =
    more (stepped (record { nodes = ns; pending = p; awaited = awaits.Relation f })
    (next_step (awaits.Relation f) tokens.In)) (length ns + length p + 1)
    (length ns + length p + 1 + 1) (omega arith)
    (stepped_room ns p (awaits.Relation f) (next_step (awaits.Relation f) tokens.In) (omega arith))
taken_room (awaits.FirstMember f mask) ns p t = first_value_room f mask ns p (member f mask t)
taken_room (awaits.Member f mask) ns p t = value_room f mask ns p (member f mask t)
taken_room (awaits.SetEnd f mask) ns p tokens.CloseSet = let room = closed_room ns p in omega (arith, room)
taken_room (awaits.SetEnd f mask) ns p tokens.Comma = omega arith
taken_room (awaits.SetEnd f mask) ns p t = tt
taken_room (awaits.Relation f) ns p (tokens.Join operator) = field_room f ns p (tokens.Join operator)
taken_room (awaits.Relation f) ns p tokens.Close = field_room f ns p tokens.Close
taken_room (awaits.Relation f) ns p t = tt
taken_room a ns p t = more (stepped (record { nodes = ns; pending = p; awaited = a }) (next_step a t))
    (length ns + length p + 1) (length ns + length p + 1 + 1) (omega arith)
    (stepped_room ns p a (next_step a t) (next_room a t tt))

fewer : (o : Outcome) (u : ExpressionState) (n : ℕ) → o ≡ Ok u → TakesAtMost o n → size_of u ≤ n
fewer (Ok s) u n is at = let same : s ≡ u = cc in subst (λ (v : ExpressionState). size_of v ≤ n) same at
fewer (Err kind) u n is at = absurd cc

pub room_after : (s u : ExpressionState) (t : Token) → taken s t ≡ Ok u → size_of u ≤ size_of s + 1
room_after s u t is = fewer (taken s t) u (size_of s + 1) is (taken_room s.awaited s.nodes s.pending t)
