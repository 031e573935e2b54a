-- What completed packets can make of a primitive, by what was seen.
use Rattle.std.proofs.Common.{◌≡◌, ℕ, ◌-◌, List, [], ◌++◌, refl, sym, subst, ◌∙◌, Bool, false, IsTrue, ◌↔◌}
use Rattle.std.specs.Prelude.{Option, Some, None, is_some, replicate}
use Rattle.std.proofs.lemmas.List.{length-replicate}
use Rattle.etherparse.specs.Header.{Header}
use Rattle.ether_peel.specs.Grammar.Stack.{Ending, Accepted, Walk, whole}
use Rattle.ether_peel.specs.Walker.Start.{start_of}
use Rattle.ether_peel.proofs.Grammar.Stacks.{one_stack}
use Rattle.ether_filter.specs.declared.field_test.Relation.{Relation}
use Rattle.ether_filter.specs.declared.instruction.Instruction.{Instruction}
use Rattle.ether_filter.specs.declared.packet.Packet.{Packet}
use Rattle.ether_filter.specs.declared.possible.Told.{Told}
use Rattle.ether_filter.specs.declared.primitive.Primitive.{Primitive}
use Rattle.ether_filter.specs.declared.primitive.Primitive.TheVariants as primitives
use Rattle.ether_filter.specs.declared.seen.Seen.{Seen}
use Rattle.ether_filter.specs.CutWalks.{AreAll, ShowsHeaders}
use Rattle.ether_filter.specs.Deciding.{is_of_field, is_refused}
use Rattle.ether_filter.specs.FilterProgram.{field_primitive, frame_primitive, frame_relation_numbered, primitive_or, primitive_of, primitive_numbered, relation_numbered}
use Rattle.ether_filter.specs.Possible.{AreTold}
use Rattle.ether_filter.specs.Primitives.{Walked, walked, frame_in, frame_of, Matches}
use Rattle.ether_filter.specs.Prospects.{IsCompletion}
use Rattle.ether_filter.specs.Seen.{Shows}
use Rattle.ether_filter.proofs.Truth.{same_truth}
use Rattle.ether_filter.proofs.Typed.{zeros_are_bytes}

-- ---- the number of a primitive that tests no field

-- it has one, or tests what the capture says
by_or : (o : Option Primitive) (r q : Option Relation) (s : Instruction) (p : Primitive)
    → primitive_or o (primitive_or (field_primitive r s) (frame_primitive q s)) ≡ Some p → is_of_field p ≡ false
    → o ≡ None → q ≡ None → ⊥
by_or (Some q) r f s p is free none no_frame = absurd cc
by_or None None None s p is free none no_frame = absurd cc
by_or None (Some r) f s (primitives.Field t) is free none no_frame = absurd cc
by_or None (Some r) f s p is free none no_frame = absurd cc
by_or None None (Some f) s p is free none no_frame = absurd cc

pub never_none : (s : Instruction) (p : Primitive) → primitive_of s ≡ Some p → is_of_field p ≡ false
    → primitive_numbered s.kind s.operand ≡ None → frame_relation_numbered s.kind ≡ None → ⊥
never_none s p is free none no_frame =
    by_or (primitive_numbered s.kind s.operand) (relation_numbered s.kind) (frame_relation_numbered s.kind) s p is free
    none no_frame

-- ---- at an open unit

-- the ending matters to `refused` alone
pub any_ending : (p : Primitive) (packet : Packet) (hs : List Header) (e f : Ending) → is_refused p ≡ false
    → Matches p (walked packet hs e) → Matches p (walked packet hs f)
any_ending primitives.Refused packet hs e f free m = absurd cc
any_ending p packet hs e f free m = m

pub seen_told : (packet : Packet) (hs : List Header) (s : Seen) (ids : List ℕ) (p : Primitive) (told : Told)
    → ShowsHeaders packet hs s ids → s.is_refused ≡ false → told.has_tag ≡ is_some s.outer
    → ((w : Walked) → frame_in w ≡ frame_of packet → Shows w s ids
    → IsTrue told.is_match ↔ Matches p w)
    → AreTold packet hs p told
seen_told packet hs s ids p told shows free tag match =
    let e = Accepted (whole (start_of packet.start) []) (start_of packet.start) in
    let here = shows e (sym free) in
    let m = match (walked packet hs e) refl here in
    let tags = tag ∙ here primitives.Vlan refl refl in
    record {
      is_match = λ f never.
          (λ t. any_ending p packet hs e f never (m.0 t), λ n. m.1 (any_ending p packet hs f e never n));
      has_tag = same_truth tags;
    }

-- ---- where all completed packets end alike

pub some_completion : (packet : Packet) → IsCompletion packet (replicate (packet.original_len - packet.captured_len) 0)
some_completion packet = record {
  are_bytes = zeros_are_bytes (packet.original_len - packet.captured_len);
  all = length-replicate {A = ℕ} (packet.original_len - packet.captured_len) 0;
}

-- each has the same headers, and matches if what was seen does
pub each_is : (packet : Packet) (hs : List Header) (s : Seen) (ids : List ℕ) (p : Primitive) (b refused : Bool)
    → AreAll packet hs refused → s.is_refused ≡ refused → ShowsHeaders packet hs s ids
    → ((w : Walked) → frame_in w ≡ frame_of packet → Shows w s ids
    → IsTrue b ↔ Matches p w)
    → (more : List ℕ) (ks : List Header) (e : Ending) → IsCompletion packet more
    → Walk (start_of packet.start) (packet.frame.now ++ more) ks e → IsTrue b ↔ Matches p (walked packet ks e)
each_is packet hs s ids p b refused all is shows match more ks e c walk =
    let a = all more c in
    let list = packet.frame.now ++ more in
    let x = start_of packet.start in
    let one = one_stack list x (whole x list) hs ks a.0 e a.1 walk in
    let here = match (walked packet hs a.0) refl (shows a.0 (a.2 ∙ sym is)) in
    subst (λ (l : List Header). IsTrue b ↔ Matches p (walked packet l e)) one.0
    (subst (λ (f : Ending). IsTrue b ↔ Matches p (walked packet hs f)) one.1 here)
