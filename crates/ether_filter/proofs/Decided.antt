-- What decisions on primitives that test no field say.
use Rattle.std.proofs.Common.{◌≡◌, ℕ, List, refl, sym, subst, ◌∙◌, Bool, true, false, IsTrue, ◌↔◌}
use Rattle.std.specs.Prelude.{Option, Some, None}
use Rattle.etherparse.proofs.SubLists.{IsBytes-take}
use Rattle.etherparse.specs.Bytes.{IsBytes}
use Rattle.etherparse.specs.Header.{Header}
use Rattle.ether_peel.specs.Grammar.Stack.{Ending}
use Rattle.ether_filter.specs.declared.can.Can.{Can}
use Rattle.ether_filter.specs.declared.decision.Decision.{Decision}
use Rattle.ether_filter.specs.declared.decision.Decision.TheVariants as decisions
use Rattle.ether_filter.specs.declared.packet.Packet.{Packet}
use Rattle.ether_filter.specs.declared.primitive.Primitive.{Primitive}
use Rattle.ether_filter.specs.declared.primitive.Primitive.TheVariants as primitives
use Rattle.ether_filter.specs.declared.seen.Seen.{Seen}
use Rattle.ether_filter.specs.Primitives.{Walked, walked, frame_in, frame_of, Matches}
use Rattle.ether_filter.specs.Expressions.{Test}
use Rattle.ether_filter.specs.Prospects.{AtCompletions}
use Rattle.ether_filter.specs.Later.{SomeCompletion}
use Rattle.ether_filter.specs.Needed.{IsUndecided, IsLeast}
use Rattle.ether_filter.specs.Possible.{IsPossible}
use Rattle.ether_filter.specs.Certain.{IsPlain}
use Rattle.ether_filter.specs.Certain as certain
use Rattle.ether_filter.specs.CutWalks.{frame_total, AreAll, ShowsHeaders}
use Rattle.ether_filter.specs.WithoutFcs.{IsWithoutFcs}
use Rattle.ether_filter.specs.declared.instruction.Instruction.{Instruction}
use Rattle.ether_filter.specs.FieldTests.{Frame}
use Rattle.ether_filter.specs.FilterProgram.{primitive_of, primitive_numbered, capture_truth}
use Rattle.ether_filter.specs.Seen.{Shows, matching, length_truth}
use Rattle.ether_filter.specs.Deciding.{is_of_field, is_of_lengths, Says}
use Rattle.ether_filter.specs.Evaluation.{decided}
use Rattle.ether_filter.proofs.Kleene.{exact_known, known_exact}
use Rattle.ether_filter.proofs.SeenOutcomes.{each_is, never_none}
use Rattle.ether_filter.proofs.Truth.{matching_is}
use Rattle.ether_filter.proofs.Numbered.{capture_none, no_length, no_test, numbered_is}
use Rattle.ether_filter.proofs.WithoutFcs.{some_match, some_fail}
use Rattle.ether_filter.proofs.LeastWithoutFcs.{least_without}

-- a primitive matches or does not
stable : (p : Primitive) (w : Walked) → ((Matches p w → ⊥) → ⊥) → Matches p w
stable p w never = by_truth (matching w p) (matching_is w p)
  where
    by_truth : (b : Bool) → IsTrue b ↔ Matches p w → Matches p w
    by_truth true is = is.0 refl
    by_truth false is = absurd (never (λ m. let t = is.1 m in cc))

-- if no completed packet fails, all match
pub all_match : (packet : Packet) (p : Primitive) → (SomeCompletion packet (λ w. Matches p w → ⊥) → ⊥)
    → AtCompletions packet (Matches p)
all_match packet p none more ks f c walk =
    stable p (walked packet ks f) (λ never. none (record {
      more = more;
      headers = ks;
      ending = f;
      completes = c;
      walk = walk;
      holds = never;
    }))

pub none_match : (packet : Packet) (p : Primitive) → (SomeCompletion packet (Matches p) → ⊥)
    → AtCompletions packet (λ w. Matches p w → ⊥)
none_match packet p none more ks f c walk m =
    none (record { more = more; headers = ks; ending = f; completes = c; walk = walk; holds = m })

-- ---- by what is possible

pub says_matches : (packet : Packet) (hs : List Header) (e : Ending) (p : Primitive) (can : Can)
    → is_of_field p ≡ false → IsPossible packet p can → can.fails ≡ false
    → Says packet hs e (Test p) decisions.Matches
says_matches packet hs e p can free is never =
    known_exact packet hs e true p free
    (all_match packet p (λ some. let t = is.fails.1 some in let both : false ≡ true = sym never ∙ t in cc))

pub says_fails : (packet : Packet) (hs : List Header) (e : Ending) (p : Primitive) (can : Can)
    → is_of_field p ≡ false → IsPossible packet p can → can.matches ≡ false
    → Says packet hs e (Test p) decisions.Fails
says_fails packet hs e p can free is never =
    known_exact packet hs e false p free
    (none_match packet p (λ some. let t = is.matches.1 some in let both : false ≡ true = sym never ∙ t in cc))

pub says_needs : (packet : Packet) (hs : List Header) (e : Ending) (p : Primitive) (n : ℕ)
    → is_of_field p ≡ false → IsUndecided packet p → IsLeast packet p n
    → Says packet hs e (Test p) (decisions.Needs n)
says_needs packet hs e (primitives.Field t) n free u least = absurd cc
says_needs packet hs e p n free u least = (u, least)

-- ---- where all completed packets end alike

pub certain_says : (packet : Packet) (hs : List Header) (s : Seen) (ids : List ℕ) (p : Primitive) (ks : List Header)
    (e : Ending) (d : Decision)
    (b refused : Bool)
    → is_of_field p ≡ false → AreAll packet hs refused → s.is_refused ≡ refused → ShowsHeaders packet hs s ids
    → ((w : Walked) → frame_in w ≡ frame_of packet → Shows w s ids → IsTrue b ↔ Matches p w)
    → d ≡ decided b → Says packet ks e (Test p) d
certain_says packet hs s ids p ks e d true refused free all is shows match same =
    subst (Says packet ks e (Test p)) (sym same) (known_exact packet ks e true p free
    (λ more ls f c walk. (each_is packet hs s ids p true refused all is shows match more ls f c walk).0 refl))
certain_says packet hs s ids p ks e d false refused free all is shows match same =
    subst (Says packet ks e (Test p)) (sym same) (known_exact packet ks e false p free
    (λ more ls f c walk m.
    let t = (each_is packet hs s ids p false refused all is shows match more ls f c walk).1 m in cc))

-- ---- without a frame check sequence

-- what some completed packets do is the same
record SameFor (packet plain : Packet) (p : Primitive) : Type 0 where
  matches : SomeCompletion packet (Matches p) ↔ SomeCompletion plain (Matches p)
  fails : SomeCompletion packet (λ w. Matches p w → ⊥) ↔ SomeCompletion plain (λ w. Matches p w → ⊥)

same_for : (packet plain : Packet) (p : Primitive) → IsBytes packet.frame.now → is_of_lengths p ≡ false
    → IsWithoutFcs packet plain → SameFor packet plain p
same_for packet plain p ok no_lengths w = record {
  matches = some_match packet plain p ok no_lengths w;
  fails = some_fail packet plain p ok no_lengths w;
}

none_fails : (packet : Packet) (hs : List Header) (e : Ending) (p : Primitive) → is_of_field p ≡ false
    → Says packet hs e (Test p) decisions.Matches → SomeCompletion packet (λ w. Matches p w → ⊥) → ⊥
none_fails packet hs e p free k some =
    some.holds (exact_known packet hs e true p free k some.more some.headers some.ending some.completes some.walk)

none_matches : (packet : Packet) (hs : List Header) (e : Ending) (p : Primitive) → is_of_field p ≡ false
    → Says packet hs e (Test p) decisions.Fails → SomeCompletion packet (Matches p) → ⊥
none_matches packet hs e p free k some =
    exact_known packet hs e false p free k some.more some.headers some.ending some.completes some.walk some.holds

needs_exact : (packet : Packet) (hs : List Header) (e : Ending) (p : Primitive) (n : ℕ) → is_of_field p ≡ false
    → Says packet hs e (Test p) (decisions.Needs n) → IsUndecided packet p × IsLeast packet p n
needs_exact packet hs e (primitives.Field t) n free u = absurd cc
needs_exact packet hs e p n free u = u

without_says : (packet plain : Packet) (hs : List Header) (e : Ending) (p : Primitive) (d : Decision)
    → IsBytes packet.frame.now → is_of_field p ≡ false → is_of_lengths p ≡ false → IsWithoutFcs packet plain
    → Says plain hs e (Test p) d → Says packet hs e (Test p) d
without_says packet plain hs e p decisions.Matches ok free no_lengths w k =
    let same = same_for packet plain p ok no_lengths w in
    known_exact packet hs e true p free
    (all_match packet p (λ some. none_fails plain hs e p free k (same.fails.0 some)))
without_says packet plain hs e p decisions.Fails ok free no_lengths w k =
    let same = same_for packet plain p ok no_lengths w in
    known_exact packet hs e false p free
    (none_match packet p (λ some. none_matches plain hs e p free k (same.matches.0 some)))
without_says packet plain hs e p (decisions.Needs n) ok free no_lengths w k =
    let same = same_for packet plain p ok no_lengths w in
    let u = needs_exact plain hs e p n free k in
    says_needs packet hs e p n free (same.matches.1 u.0.0, same.fails.1 u.0.1)
    (least_without packet plain p n ok no_lengths w u.0 u.1)

pub plain_says : (packet plain : Packet) (hs : List Header) (e : Ending) (p : Primitive) (d : Decision)
    → IsBytes packet.frame.now → is_of_field p ≡ false → is_of_lengths p ≡ false → IsPlain packet plain
    → Says plain hs e (Test p) d → Says packet hs e (Test p) d
plain_says packet plain hs e p d ok free no_lengths (certain.same is) k =
    subst (λ (q : Packet). Says q hs e (Test p) d) is k
plain_says packet plain hs e p d ok free no_lengths (certain.without w) k =
    without_says packet plain hs e p d ok free no_lengths w k

pub plain_bytes : (packet plain : Packet) → IsBytes packet.frame.now → IsPlain packet plain → IsBytes plain.frame.now
plain_bytes packet plain ok (certain.same is) = subst (λ (q : Packet). IsBytes q.frame.now) (sym is) ok
plain_bytes packet plain ok (certain.without w) =
    subst IsBytes (sym w.frame) (IsBytes-take (frame_total plain) packet.frame.now ok)

-- ---- of what the capture says

pub lengths_say : (packet : Packet) (hs : List Header) (e : Ending) (p : Primitive) (b : Bool) (d : Decision)
    → is_of_field p ≡ false → ((w : Walked) → frame_in w ≡ frame_of packet → IsTrue b ↔ Matches p w)
    → d ≡ decided b → Says packet hs e (Test p) d
lengths_say packet hs e p true d free iff same =
    subst (Says packet hs e (Test p)) (sym same)
    (known_exact packet hs e true p free (λ more ks f c walk. (iff (walked packet ks f) refl).0 refl))
lengths_say packet hs e p false d free iff same =
    subst (Says packet hs e (Test p)) (sym same) (known_exact packet hs e false p free
    (λ more ks f c walk m. let t = (iff (walked packet ks f) refl).1 m in cc))

-- a primitive does not ask what the capture does not say
left_by : (s : Instruction) (p : Primitive) (f : Frame) (o : Option Primitive)
    → primitive_numbered s.kind s.operand ≡ o → primitive_of s ≡ Some p → is_of_field p ≡ false
    → capture_truth s f ≡ None → is_of_lengths p ≡ false
left_by s p f None numbered is free none = absurd (never_none s p is free numbered (capture_none s f none).1)
left_by s p f (Some q) numbered is free none =
    let both = sym (numbered_is s q numbered) ∙ is in
    let same : q ≡ p = cc in
    let truth = subst (λ (o : Option Primitive). length_truth o f.captured f.original ≡ None) numbered
    (capture_none s f none).0 in
    subst (λ (r : Primitive). is_of_lengths r ≡ false) same
    (no_length q f.captured f.original (no_test s.kind s.operand q numbered) truth)

pub no_lengths_left : (s : Instruction) (p : Primitive) (f : Frame) → primitive_of s ≡ Some p → is_of_field p ≡ false
    → capture_truth s f ≡ None → is_of_lengths p ≡ false
no_lengths_left s p f is free none = left_by s p f (primitive_numbered s.kind s.operand) refl is free none
