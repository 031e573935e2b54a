-- Past primitives that do not match, as is seen without a look at the others.
use Rattle.std.proofs.Common.{◌≡◌, ℕ, ◌<◌, ◌≤◌, List, [], ◌∷◌, length, refl, ap, ◌∙◌, sym, arith, nat_eq, Bool, true, false, IsTrue}
use Rattle.std.specs.Prelude.{get_or, Option, Some, None, is_some, nat_le, not}
use Rattle.std.specs.List.{list_any}
use Rattle.std.proofs.lemmas.Bool.{false_from_ne_true, ne_eqb, eq-eqb, leb-true, ltb-true}
use Rattle.etherparse.specs.Header.{Header}
use Rattle.etherparse.specs.Header as headers
use Rattle.ether_filter.specs.declared.jumps.Jump.{Jump}
use Rattle.ether_filter.specs.declared.node.Node.{Node}
use Rattle.ether_filter.specs.declared.node.Node.TheVariants as nodes
use Rattle.ether_filter.specs.declared.primitive.Primitive.{Primitive}
use Rattle.ether_filter.specs.declared.primitive.Primitive.TheVariants as primitives
use Rattle.ether_filter.specs.declared.seen.Seen.{Seen}
use Rattle.ether_filter.specs.declared.seen.Tags.TheVariants as tags
use Rattle.ether_filter.specs.declared.instruction.Instruction.{Instruction}
use Rattle.ether_filter.specs.Primitives.{is_tag, vlan_ids, Walked, Matches}
use Rattle.ether_filter.specs.Jumps.{jump_at, is_of_tags, asks_tags, Passes, last, more, Reaches, Misses, MissesIds, MissesMore, MissesSeen, tags_of, is_tag_test, is_other_id, is_unseen_id, is_of_more}
use Rattle.ether_filter.specs.Expressions.{Expression}
use Rattle.ether_filter.specs.Postfix.{postfix}
use Rattle.ether_filter.specs.FilterProgram.{IsProgramOf, primitive_of}
use Rattle.ether_filter.specs.Seen.{matching, has_vlan_id, Shows}
use Rattle.ether_filter.proofs.JumpsLemmas.{reaches_next}
use Rattle.ether_filter.proofs.Truth.{matching_is}
use Rattle.ether_filter.proofs.ProgramLemmas.{no_instruction, is_test}

not-true : (b : Bool) → not b ≡ true → b ≡ false
not-true true is = absurd cc
not-true false is = refl

no_ids : (hs : List Header) → list_any is_tag hs ≡ false → vlan_ids hs ≡ []
no_ids [] none = refl
no_ids (headers.Vlan v ∷ hs) none = absurd cc
no_ids (h ∷ hs) none = no_ids hs none

fails_untagged : (w : Walked) → list_any is_tag w.headers ≡ false → (p : Primitive) → is_of_tags p ≡ true
    → Matches p w → ⊥
fails_untagged w none primitives.Vlan of m = cc
fails_untagged w none (primitives.VlanId id) of m =
    let no : IsTrue false = rw (no_ids w.headers none) at m in cc
fails_untagged w none (primitives.OuterVlan id) of (inner, is) =
    let ids = no_ids w.headers none in cc
fails_untagged w none (primitives.InnerVlan id) of (outer, between, is) =
    let ids = no_ids w.headers none in cc
fails_untagged w none p of m = cc

untagged : (w : Walked) (s : Seen) (ids : List ℕ) → Shows w s ids → s.outer ≡ None
    → Misses tags.Untagged (matching w)
untagged w s ids shows none p of =
    let no_tag : list_any is_tag w.headers ≡ false = sym (shows primitives.Vlan refl refl) ∙ ap is_some none in
    false_from_ne_true (matching w p) (λ t. fails_untagged w no_tag p of ((matching_is w p).0 t))

others : (w : Walked) (s : Seen) (ids : List ℕ) (id : ℕ) → Shows w s ids → s.outer ≡ Some id → s.inner ≡ None
    → Misses (tags.One id) (matching w)
others w s ids id shows is none n other =
    sym (shows (primitives.VlanId n) refl refl) ∙ (λ i. has_vlan_id n s.has_more (is i) (none i) ids)
    ∙ ne_eqb n id other

-- what is seen of a packet's tags
misses_tags : (w : Walked) (s : Seen) (ids : List ℕ) → Shows w s ids
    → Misses (tags_of s.outer s.inner) (matching w)
misses_tags w s ids shows = by_tags s.outer s.inner refl refl
  where
    by_tags : (outer inner : Option ℕ) → s.outer ≡ outer → s.inner ≡ inner → Misses (tags_of outer inner) (matching w)
    by_tags None inner out none = untagged w s ids shows out
    by_tags (Some id) None out none = others w s ids id shows out none
    by_tags (Some id) (Some other) out some = tt

pub misses : (w : Walked) (s : Seen) (ids : List ℕ) → Shows w s ids → MissesSeen s ids (matching w)
misses w s ids shows = record {
  other_tags = misses_tags w s ids shows;
  other_ids = λ n unseen. sym (shows (primitives.VlanId n) refl refl) ∙ unseen;
}

pub misses_more : (w : Walked) (len : ℕ) → w.original ≡ len → MissesMore len (matching w)
misses_more w len is n above = false_from_ne_true (nat_le n w.original)
    (λ t. omega (arith, leb-true n w.original t, is, above))

-- ---- the jumps

record IsTagTest (n : Node) : Type 0 where
  primitive : Primitive
  is : n ≡ nodes.Test primitive
  of : is_of_tags primitive ≡ true

tag_test : (n : Node) → asks_tags n ≡ true → IsTagTest n
tag_test (nodes.Test p) asks = record { primitive = p; is = refl; of = asks }
tag_test n asks = absurd cc

record IsTagPrimitive (o : Option Primitive) : Type 0 where
  primitive : Primitive
  is : o ≡ Some primitive
  of : is_of_tags primitive ≡ true

asked : (o : Option Primitive) → is_tag_test o ≡ true → IsTagPrimitive o
asked (Some p) asks = record { primitive = p; is = refl; of = asks }
asked None asks = absurd cc

-- a primitive that does not match, where the test says so
record IsMissed (t : Primitive → Bool) (o : Option Primitive) : Type 0 where
  primitive : Primitive
  is : o ≡ Some primitive
  fails : t primitive ≡ false

other : (t : Primitive → Bool) (id : ℕ) → Misses (tags.One id) t → (o : Option Primitive) → is_other_id id o ≡ true
    → IsMissed t o
other t id fails (Some (primitives.VlanId n)) asks = record {
  primitive = primitives.VlanId n;
  is = refl;
  fails = fails n (λ same. let equal : nat_eq n id ≡ true = eq-eqb n id same in absurd cc);
}
other t id fails (Some p) asks = absurd cc
other t id fails None asks = absurd cc

unseen : (t : Primitive → Bool) (s : Seen) (ids : List ℕ) → MissesIds s ids t → (o : Option Primitive)
    → is_unseen_id s ids o ≡ true → IsMissed t o
unseen t s ids fails (Some (primitives.VlanId n)) asks = record {
  primitive = primitives.VlanId n;
  is = refl;
  fails = fails n (not-true (has_vlan_id n s.has_more s.outer s.inner ids) asks);
}
unseen t s ids fails (Some p) asks = absurd cc
unseen t s ids fails None asks = absurd cc

of_more : (t : Primitive → Bool) (len : ℕ) → MissesMore len t → (o : Option Primitive) → is_of_more len o ≡ true
    → IsMissed t o
of_more t len fails (Some (primitives.Greater n)) asks = record {
  primitive = primitives.Greater n;
  is = refl;
  fails = fails n (ltb-true len n asks);
}
of_more t len fails (Some p) asks = absurd cc
of_more t len fails None asks = absurd cc

pub passes : (ns : List Node) (js : List Jump) (t : Primitive → Bool) (at past end : ℕ) (d : Node) (p : Primitive)
    → Misses tags.Untagged t → Passes ns js at past → at < length ns → length ns ≤ end
    → get_or ns at d ≡ nodes.Test p → is_of_tags p ≡ true → Reaches ns js t at end
    → (at < past) × Reaches ns js t past end
passes ns js t at past end d p fails (last _) inside few is of r =
    rw (fails p of) at (reaches_next ns js t at end d p inside few is r)
passes ns js t at past end d p fails (more _ _ within asks on) inside few is of r =
    let n = rw (fails p of) at (reaches_next ns js t at end d p inside few is r) in
    let test = tag_test (get_or ns (jump_at js at).if_false d) (asks d) in
    let later =
    passes ns js t (jump_at js at).if_false past end d test.primitive fails on within few test.is test.of n.1 in
    (omega (arith, n.0, later.0), later.1)

-- ---- the instructions

-- past one that asks for VLAN tags, where there are none
pub past_tag : (is : List Instruction) (x : Expression) (p : IsProgramOf is x) (t : Primitive → Bool) (at next end : ℕ)
    → at < length is
    → is_tag_test (primitive_of (get_or is at no_instruction)) ≡ true
    → next ≡ (get_or is at no_instruction).past_tags → Misses tags.Untagged t → length (postfix x) ≤ end
    → Reaches (postfix x) p.jumps t at end → (at < next) × Reaches (postfix x) p.jumps t next end
past_tag is x p t at next end inside asks to fails few r =
    let i = get_or is at no_instruction in
    let each = p.each at inside nodes.Not no_instruction in
    let q = asked (primitive_of i) asks in
    rw (to, each.past_tags) (passes (postfix x) p.jumps t at (get_or p.past at 0) end nodes.Not q.primitive fails
    (p.are_passed at (omega (arith, inside, p.count))) (omega (arith, inside, p.count)) few
    (is_test i _ q.primitive each.node (sym q.is)) q.of r)

-- past one that does not match
past_missed : (is : List Instruction) (x : Expression) (p : IsProgramOf is x) (t : Primitive → Bool)
    (at next end : ℕ) → at < length is
    → IsMissed t (primitive_of (get_or is at no_instruction))
    → next ≡ (get_or is at no_instruction).jump.if_false → length (postfix x) ≤ end
    → Reaches (postfix x) p.jumps t at end → (at < next) × Reaches (postfix x) p.jumps t next end
past_missed is x p t at next end inside q to few r =
    let i = get_or is at no_instruction in
    let each = p.each at inside nodes.Not no_instruction in
    rw (to, each.jump)
    (rw q.fails at (reaches_next (postfix x) p.jumps t at end nodes.Not q.primitive
    (omega (arith, inside, p.count)) few
    (is_test i _ q.primitive each.node (sym q.is)) r))

-- .. since it asks for an identifier, and the only tag has another one
pub past_other : (is : List Instruction) (x : Expression) (p : IsProgramOf is x) (t : Primitive → Bool)
    (id at next end : ℕ) → at < length is
    → is_other_id id (primitive_of (get_or is at no_instruction))
    ≡ true
    → next ≡ (get_or is at no_instruction).jump.if_false → Misses (tags.One id) t → length (postfix x) ≤ end
    → Reaches (postfix x) p.jumps t at end → (at < next) × Reaches (postfix x) p.jumps t next end
past_other is x p t id at next end inside asks to fails few r =
    past_missed is x p t at next end inside (other t id fails _ asks) to few r

-- .. or no tag has it
pub past_unseen : (is : List Instruction) (x : Expression) (p : IsProgramOf is x) (t : Primitive → Bool)
    (s : Seen) (ids : List ℕ) (at next end : ℕ) → at < length is
    → is_unseen_id s ids (primitive_of (get_or is at no_instruction))
    ≡ true
    → next ≡ (get_or is at no_instruction).jump.if_false → MissesIds s ids t → length (postfix x) ≤ end
    → Reaches (postfix x) p.jumps t at end → (at < next) × Reaches (postfix x) p.jumps t next end
past_unseen is x p t s ids at next end inside asks to fails few r =
    past_missed is x p t at next end inside (unseen t s ids fails _ asks) to few r

-- .. or since it asks for more bytes
pub past_more : (is : List Instruction) (x : Expression) (p : IsProgramOf is x) (t : Primitive → Bool)
    (len at next end : ℕ) → at < length is
    → is_of_more len (primitive_of (get_or is at no_instruction))
    ≡ true
    → next ≡ (get_or is at no_instruction).jump.if_false → MissesMore len t → length (postfix x) ≤ end
    → Reaches (postfix x) p.jumps t at end → (at < next) × Reaches (postfix x) p.jumps t next end
past_more is x p t len at next end inside asks to fails few r =
    past_missed is x p t at next end inside (of_more t len fails _ asks) to few r
