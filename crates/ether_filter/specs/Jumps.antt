-- Where the evaluation of an expression goes on after each of its primitives, which are tested from left to right.
use Rattle.std.specs.Prelude.{◌≡◌, ℕ, ◌+◌, ◌<◌, ◌≤◌, List, length, get_or, nat_eq, nat_lt, Bool, true, false, not, Option, Some, None}
use Rattle.ether_filter.specs.declared.jumps.Jump.{Jump}
use Rattle.ether_filter.specs.declared.primitive.Primitive.{Primitive}
use Rattle.ether_filter.specs.declared.primitive.Primitive.TheVariants as primitives
use Rattle.ether_filter.specs.declared.seen.Seen.{Seen}
use Rattle.ether_filter.specs.declared.seen.Tags.{Tags}
use Rattle.ether_filter.specs.declared.seen.Tags.TheVariants as tags
use Rattle.ether_filter.specs.declared.node.Node.{Node}
use Rattle.ether_filter.specs.declared.node.Node.TheVariants as nodes
use Rattle.ether_filter.specs.declared.node.Operator.{Operator}
use Rattle.ether_filter.specs.declared.node.Operator.TheVariants as operators
use Rattle.ether_filter.specs.Expressions.{Expression, Test, Not, Join}
use Rattle.ether_filter.specs.Postfix.{postfix}
use Rattle.ether_filter.specs.Seen.{has_vlan_id}

abbrev pub chosen : Bool → Jump → ℕ
chosen true j = j.if_true
chosen false j = j.if_false

-- the jump of the whole expression
abbrev pub first_jump : Jump
first_jump = record { if_true = 255; if_false = 254 }

abbrev pub negated : Jump → Jump
negated j = record { if_true = j.if_false; if_false = j.if_true }

-- the jump of a left operand, by the index at which the right operand begins
abbrev pub before : Operator → ℕ → Jump → Jump
before operators.And right j = record { if_true = right; if_false = j.if_false }
before operators.Or right j = record { if_true = j.if_true; if_false = right }

abbrev pub no_jump : Jump
no_jump = record { if_true = 0; if_false = 0 }

abbrev pub jump_at : List Jump → ℕ → Jump
jump_at js at = get_or js at no_jump

-- the jumps of the primitives of an expression whose nodes begin at an index, if this is the jump of the whole
-- expression
abbrev pub AreJumps : List Jump → ℕ → Expression → Jump → Type 0
AreJumps js at (Test p) j = jump_at js at ≡ j
AreJumps js at (Not x) j = AreJumps js at x (negated j)
AreJumps js at (Join operator x y) j =
    let right = at + length (postfix x) in
    AreJumps js at x (before operator right j) × AreJumps js right y j

-- these jumps are filled in, and those after them are unchanged
pub record AreFilled (old new : List Jump) (begin end : ℕ) (x : Expression) (j : Jump) (result : ℕ) : Type 0 where
  pub at : result ≡ begin
  pub jumps : AreJumps new begin x j
  pub same : (i : ℕ) → end ≤ i → jump_at new i ≡ jump_at old i

-- ---- past primitives that ask for VLAN tags

abbrev pub is_of_tags : Primitive → Bool
is_of_tags primitives.Vlan = true
is_of_tags (primitives.VlanId n) = true
is_of_tags (primitives.OuterVlan n) = true
is_of_tags (primitives.InnerVlan n) = true
is_of_tags _ = false

abbrev pub asks_tags : Node → Bool
asks_tags (nodes.Test p) = is_of_tags p
asks_tags _ = false

-- where the evaluation goes on from a primitive that asks for VLAN tags, if neither it nor those directly after it
-- match
pub data Passes (ns : List Node) (js : List Jump) : ℕ → ℕ → Type 0 where
  last : (at : ℕ) → Passes ns js at (jump_at js at).if_false
  more : (at past : ℕ) → (jump_at js at).if_false < length ns
      → ((d : Node) → asks_tags (get_or ns (jump_at js at).if_false d) ≡ true)
      → Passes ns js (jump_at js at).if_false past → Passes ns js at past

abbrev pub ArePassed : List Node → List Jump → List ℕ → Type 0
ArePassed ns js past = (i : ℕ) → i < length ns → Passes ns js i (get_or past i 0)

-- ---- from one primitive to another

-- the jumps lead from one index of the nodes forward to another, or to an end, if t says which primitives match
pub data Reaches (ns : List Node) (js : List Jump) (t : Primitive → Bool) : ℕ → ℕ → Type 0 where
  here : (at : ℕ) → Reaches ns js t at at
  step : (at end : ℕ) (p : Primitive) → at < length ns → ((d : Node) → get_or ns at d ≡ nodes.Test p)
      → at < chosen (t p) (jump_at js at) → Reaches ns js t (chosen (t p) (jump_at js at)) end
      → Reaches ns js t at end

-- ---- past what no VLAN tag matches

-- what is known of a packet's VLAN tags, by the identifiers of the first one, and of the last one if there are two or
-- more
abbrev pub tags_of : (outer inner : Option ℕ) → Tags
tags_of None inner = tags.Untagged
tags_of (Some id) None = tags.One id
tags_of (Some id) (Some other) = tags.Many

-- primitives that ask for other VLAN tags than these do not match
abbrev pub Misses : Tags → (Primitive → Bool) → Type 0
Misses tags.Untagged t = (p : Primitive) → is_of_tags p ≡ true → t p ≡ false
Misses (tags.One id) t = (n : ℕ) → (n ≡ id → ⊥) → t (primitives.VlanId n) ≡ false
Misses tags.Many t = Unit {0}

-- primitives that ask for an identifier that was not seen do not match
abbrev pub MissesIds : Seen → (ids : List ℕ) → (Primitive → Bool) → Type 0
MissesIds s ids t =
    (n : ℕ) → has_vlan_id n s.has_more s.outer s.inner ids ≡ false → t (primitives.VlanId n) ≡ false

-- primitives that ask for other VLAN tags than those that were seen do not match
pub record MissesSeen (s : Seen) (ids : List ℕ) (t : Primitive → Bool) : Type 0 where
  pub other_tags : Misses (tags_of s.outer s.inner) t
  pub other_ids : MissesIds s ids t

-- primitives that ask for more bytes than these do not match
abbrev pub MissesMore : (len : ℕ) → (Primitive → Bool) → Type 0
MissesMore len t = (n : ℕ) → len < n → t (primitives.Greater n) ≡ false

-- whichever primitives match, if this is so of them, the evaluation of an expression leads from one index to another
abbrev pub LeadsOn : Expression → List Jump → ((Primitive → Bool) → Type 0) → (from to : ℕ) → Type 0
LeadsOn x js IsSo from to =
    (t : Primitive → Bool) (end : ℕ) → IsSo t → length (postfix x) ≤ end
    → Reaches (postfix x) js t from end → Reaches (postfix x) js t to end

-- whether a primitive asks for VLAN tags, or for another identifier than this
abbrev pub is_tag_test : Option Primitive → Bool
is_tag_test (Some p) = is_of_tags p
is_tag_test None = false

abbrev pub is_other_id : ℕ → Option Primitive → Bool
is_other_id id (Some (primitives.VlanId n)) = not (nat_eq n id)
is_other_id id _ = false

-- .. or for an identifier that was not seen
abbrev pub is_unseen_id : Seen → (ids : List ℕ) → Option Primitive → Bool
is_unseen_id s ids (Some (primitives.VlanId n)) = not (has_vlan_id n s.has_more s.outer s.inner ids)
is_unseen_id s ids _ = false

-- .. or for more bytes than these
abbrev pub is_of_more : (len : ℕ) → Option Primitive → Bool
is_of_more len (Some (primitives.Greater n)) = nat_lt len n
is_of_more len _ = false
