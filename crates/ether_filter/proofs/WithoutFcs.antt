-- A cut packet whose frame ends in a frame check sequence has the same possibilities as the packet without it.
use Rattle.std.proofs.Common.{◌≡◌, ℕ, ◌-◌, ◌<◌, ◌≤◌, List, [], ◌∷◌, ◌++◌, length, take, drop, refl, sym, ap, subst, ◌∙◌, arith, Bool, true, false, ◌||◌, ◌↔◌}
use Rattle.std.specs.Prelude.{Some, None, slice_range, is_some, IsSome, nat_eq}
use Rattle.std.specs.List.{list_any}
use Rattle.std.proofs.lemmas.List.{length-append, length-take, length-drop, take-append-drop}
use Rattle.etherparse.specs.Bytes.{IsBytes}
use Rattle.etherparse.specs.Types.LenSource.TheVariants as sources
use Rattle.etherparse.specs.Types.Layer.TheVariants as layers
use Rattle.ether_base.specs.Formats.Ethernet2.{Ethernet2Value, IsEthernet2}
use Rattle.etherparse.specs.Kind.{Kind}
use Rattle.etherparse.specs.Kind as kinds
use Rattle.etherparse.specs.Header.{Header, payload_len}
use Rattle.etherparse.specs.Header as headers
use Rattle.etherparse.specs.Refusal.{Length, Refuses}
use Rattle.etherparse.specs.Refusal as rows
use Rattle.etherparse.proofs.Numbers.{IsBytes-append}
use Rattle.etherparse.proofs.Rows.{accepts_ethernet2, accepts_ethernet2_fcs}
use Rattle.etherparse.proofs.SubLists.{part_all, part-append, IsBytes-take}
use Rattle.ether_peel.specs.Grammar.Window.{Window, within, IsIn, payload}
use Rattle.ether_peel.specs.Grammar.Expectation.{Expectation, after, has_fcs}
use Rattle.ether_peel.specs.Grammar.Places.{moved_ending}
use Rattle.ether_peel.specs.Grammar.Stack.{Ending, Accepted, Fault, IsUnit, Stack, whole, Walk}
use Rattle.ether_peel.specs.Grammar.Endings.{refusal_of}
use Rattle.ether_peel.specs.Walker.Start.{start_of, next_of}
use Rattle.ether_peel.specs.declared.start.Start.{Start as PeelStart}
use Rattle.ether_peel.specs.declared.start.Start.TheVariants as starts
use Rattle.ether_peel.proofs.Grammar.Places.{is_local}
use Rattle.ether_filter.specs.declared.can.Can.{Can}
use Rattle.ether_filter.specs.declared.packet.Packet.{Packet}
use Rattle.ether_filter.specs.declared.primitive.Primitive.{Primitive}
use Rattle.ether_filter.specs.declared.primitive.Primitive.TheVariants as primitives
use Rattle.ether_filter.specs.Primitives.{Walked, walked, ether_types, Matches}
use Rattle.ether_filter.specs.Deciding.{is_of_lengths}
use Rattle.ether_filter.specs.Prospects.{IsCompletion, Continues}
use Rattle.ether_filter.specs.Later.{SomeCompletion}
use Rattle.ether_filter.specs.Possible.{IsPossible}
use Rattle.ether_filter.specs.CutWalks.{frame_total, AreAll}
use Rattle.ether_filter.specs.WithoutFcs.{IsWithoutFcs}
use Rattle.ether_filter.proofs.OpenUnits.{taken_more, refill}
use Rattle.ether_filter.proofs.Truth.{same_truth}

-- ---- a stack does not depend on the mark of its window

abbrev marked : Bool → Window → Window
marked mark w = record { start = w.start; finish = w.finish; closed = mark; bound = w.bound }

marked_in : (list : List ℕ) (w : Window) (mark : Bool) → IsIn list w → IsIn list (marked mark w)
marked_in list w mark is = record { ordered = is.ordered; inside = is.inside }

-- a stack with another mark, which has the same refusal
record Marked (list : List ℕ) (x : Expectation) (w : Window) (mark : Bool) (hs : List Header) (e : Ending)
    : Type 0 where
  ending : Ending
  stack : Stack list x (marked mark w) hs ending
  refused : refusal_of ending ≡ refusal_of e

mark_stack : (list : List ℕ) (x : Expectation) (w : Window) (mark : Bool) (hs : List Header) (e : Ending)
    → Stack list x w hs e → Marked list x w mark hs e
mark_stack list x w mark [] (Accepted v y) s = record {
  ending = Accepted (marked mark w) x;
  stack = (refl, refl, s.2);
  refused = refl;
}
mark_stack list x w mark [] (Fault v y r) s = record {
  ending = Fault (marked mark w) x r;
  stack = (refl, refl, s.2, s.3, s.4);
  refused = refl;
}
mark_stack list x w mark (h ∷ hs) e s =
    let rest = mark_stack list (after x h) (payload w h) (is_some (payload_len h) || mark) hs e s.1 in
    record {
      ending = rest.ending;
      stack = (
        record { announced = s.0.announced; accepted = s.0.accepted; means = s.0.means },
        rest.stack,
      );
      refused = rest.refused;
    }

moved_refusal : (old new : ℕ) (e : Ending) → refusal_of (moved_ending old new e) ≡ refusal_of e
moved_refusal old new (Accepted v y) = refl
moved_refusal old new (Fault v y r) = refl

-- ---- a frame, and the same one with a check sequence after it

abbrev fcs_start : Expectation
fcs_start = start_of starts.Ethernet2Fcs

abbrev plain_start : Expectation
plain_start = start_of starts.Ethernet2

abbrev fcs_payload : List ℕ → Ethernet2Value → Window
fcs_payload list v = payload (whole fcs_start list) (headers.Ethernet2Fcs v)

abbrev plain_payload : List ℕ → Ethernet2Value → Window
plain_payload list v = payload (whole plain_start list) (headers.Ethernet2 v)

fcs_payload_in : (body fcs : List ℕ) (v : Ethernet2Value) → length fcs ≡ 4 → 14 ≤ length body
    → IsIn (body ++ fcs) (fcs_payload (body ++ fcs) v)
fcs_payload_in body fcs v four le = record {
  ordered = omega (arith, length-append body fcs, four, le);
  inside = omega (arith, length-append body fcs, four, le);
}

plain_payload_in : (body : List ℕ) (v : Ethernet2Value) → 14 ≤ length body → IsIn body (plain_payload body v)
plain_payload_in body v le = record { ordered = omega (arith, le); inside = omega arith }

-- their payloads have the same bytes
same_payload : (body fcs : List ℕ) (v : Ethernet2Value) → length fcs ≡ 4 → 14 ≤ length body
    → within (body ++ fcs) (fcs_payload (body ++ fcs) v) ≡ within body (plain_payload body v)
same_payload body fcs v four le =
    let long : length (body ++ fcs) - 4 ≡ length body = omega (arith, length-append body fcs, four) in
    let all : length body ≡ length body - 0 = omega arith in
    ap (slice_range (body ++ fcs) 14) long ∙ part-append body fcs 14 (length body) le (omega arith)
    ∙ ap (slice_range body 14) all

same_front : (body fcs : List ℕ) → 14 ≤ length body
    → slice_range (within (body ++ fcs) (whole fcs_start (body ++ fcs))) 0 14
    ≡ slice_range (within body (whole plain_start body)) 0 14
same_front body fcs le =
    ap (λ (l : List ℕ). slice_range l 0 14) (part_all (body ++ fcs) (length (body ++ fcs)) (omega arith))
    ∙ part-append body fcs 0 14 (omega arith) le
    ∙ ap (λ (l : List ℕ). slice_range l 0 14) (sym (part_all body (length body) (omega arith)))

whole_len : (x : Expectation) (list : List ℕ) → length (within list (whole x list)) ≡ length list
whole_len x list = ap length (part_all list (length list) (omega arith))

fcs_unit : (body fcs : List ℕ) (v : Ethernet2Value) → length fcs ≡ 4 → 14 ≤ length body
    → IsUnit body plain_start (whole plain_start body) (headers.Ethernet2 v)
    → IsUnit (body ++ fcs) fcs_start (whole fcs_start (body ++ fcs)) (headers.Ethernet2Fcs v)
fcs_unit body fcs v four le u = record {
  announced = refl;
  accepted = accepts_ethernet2_fcs sources.Slice (within (body ++ fcs) (whole fcs_start (body ++ fcs)))
      (omega (arith, whole_len fcs_start (body ++ fcs), length-append body fcs, four, le));
  means = record {
    whole = omega (arith, whole_len fcs_start (body ++ fcs), length-append body fcs, le);
    spells = subst (λ (l : List ℕ). IsEthernet2 l v) (sym (same_front body fcs le)) u.means.spells;
  };
}

plain_unit : (body fcs : List ℕ) (v : Ethernet2Value) → 14 ≤ length body
    → IsUnit (body ++ fcs) fcs_start (whole fcs_start (body ++ fcs)) (headers.Ethernet2Fcs v)
    → IsUnit body plain_start (whole plain_start body) (headers.Ethernet2 v)
plain_unit body fcs v le u = record {
  announced = refl;
  accepted = accepts_ethernet2 sources.Slice (within body (whole plain_start body))
      (omega (arith, whole_len plain_start body, le));
  means = record {
    whole = omega (arith, whole_len plain_start body, le);
    spells = subst (λ (l : List ℕ). IsEthernet2 l v) (same_front body fcs le) u.means.spells;
  };
}

-- the walk of the frame alone, which is alike
pub record Plain (body : List ℕ) (hs : List Header) (e : Ending) : Type 0 where
  pub value : Ethernet2Value
  pub later : List Header
  pub ending : Ending
  pub headers_are : hs ≡ headers.Ethernet2Fcs value ∷ later
  pub walk : Walk plain_start body (headers.Ethernet2 value ∷ later) ending
  pub refused : refusal_of ending ≡ refusal_of e

-- .. of the frame with its check sequence
pub record WithFcs (list : List ℕ) (hs : List Header) (e : Ending) : Type 0 where
  pub value : Ethernet2Value
  pub later : List Header
  pub ending : Ending
  pub headers_are : hs ≡ headers.Ethernet2 value ∷ later
  pub walk : Walk fcs_start list (headers.Ethernet2Fcs value ∷ later) ending
  pub refused : refusal_of ending ≡ refusal_of e

pub plain : (body fcs : List ℕ) (hs : List Header) (e : Ending) → length fcs ≡ 4 → 14 ≤ length body
    → Walk fcs_start (body ++ fcs) hs e → Plain body hs e
plain body fcs [] (Accepted v y) four le s = let is : Some kinds.Ethernet2Fcs ≡ None = s.2 in absurd cc
plain body fcs [] (Fault v y r) four le s =
    let is : Some kinds.Ethernet2Fcs ≡ Some s.2 = s.3 in
    let kind : s.2 ≡ kinds.Ethernet2Fcs = cc in
    let bytes = within (body ++ fcs) (whole fcs_start (body ++ fcs)) in
    absurd (accepts_ethernet2_fcs sources.Slice bytes
    (omega (arith, whole_len fcs_start (body ++ fcs), length-append body fcs, four, le)) r
    (subst (λ (k : Kind). Refuses sources.Slice bytes k r) kind s.4))
plain body fcs (headers.Ethernet2Fcs v ∷ hs) e four le s =
    let list = body ++ fcs in
    let x = after fcs_start (headers.Ethernet2Fcs v) in
    let w = fcs_payload list v in
    let m = mark_stack list x w false hs e s.1 in
    record {
      value = v;
      later = hs;
      ending = moved_ending 14 14 m.ending;
      headers_are = refl;
      walk = (
        plain_unit body fcs v le s.0,
        is_local list body x (marked false w) (plain_payload body v) hs m.ending
            (marked_in list w false (fcs_payload_in body fcs v four le)) (plain_payload_in body v le)
            (same_payload body fcs v four le) refl refl m.stack,
      );
      refused = moved_refusal 14 14 m.ending ∙ m.refused;
    }
plain body fcs (headers.Ethernet2 v ∷ hs) e four le s = let is = s.0.announced in absurd cc
plain body fcs (headers.LinuxSll v ∷ hs) e four le s = let is = s.0.announced in absurd cc
plain body fcs (headers.Vlan v ∷ hs) e four le s = let is = s.0.announced in absurd cc
plain body fcs (headers.Macsec v ∷ hs) e four le s = let is = s.0.announced in absurd cc
plain body fcs (headers.Arp v ∷ hs) e four le s = let is = s.0.announced in absurd cc

pub with_fcs : (body fcs : List ℕ) (hs : List Header) (e : Ending) → length fcs ≡ 4 → 14 ≤ length body
    → Walk plain_start body hs e → WithFcs (body ++ fcs) hs e
with_fcs body fcs [] (Accepted v y) four le s = let is : Some kinds.Ethernet2 ≡ None = s.2 in absurd cc
with_fcs body fcs [] (Fault v y r) four le s =
    let is : Some kinds.Ethernet2 ≡ Some s.2 = s.3 in
    let kind : s.2 ≡ kinds.Ethernet2 = cc in
    let bytes = within body (whole plain_start body) in
    absurd (accepts_ethernet2 sources.Slice bytes (omega (arith, whole_len plain_start body, le)) r
    (subst (λ (k : Kind). Refuses sources.Slice bytes k r) kind s.4))
with_fcs body fcs (headers.Ethernet2 v ∷ hs) e four le s =
    let list = body ++ fcs in
    let x = after plain_start (headers.Ethernet2 v) in
    let w = plain_payload body v in
    let m = mark_stack body x w true hs e s.1 in
    record {
      value = v;
      later = hs;
      ending = moved_ending 14 14 m.ending;
      headers_are = refl;
      walk = (
        fcs_unit body fcs v four le s.0,
        is_local body list x (marked true w) (fcs_payload list v) hs m.ending
            (marked_in body w true (plain_payload_in body v le)) (fcs_payload_in body fcs v four le)
            (sym (same_payload body fcs v four le)) refl refl m.stack,
      );
      refused = moved_refusal 14 14 m.ending ∙ m.refused;
    }
with_fcs body fcs (headers.Ethernet2Fcs v ∷ hs) e four le s = let is = s.0.announced in absurd cc
with_fcs body fcs (headers.LinuxSll v ∷ hs) e four le s = let is = s.0.announced in absurd cc
with_fcs body fcs (headers.Vlan v ∷ hs) e four le s = let is = s.0.announced in absurd cc
with_fcs body fcs (headers.Macsec v ∷ hs) e four le s = let is = s.0.announced in absurd cc
with_fcs body fcs (headers.Arp v ∷ hs) e four le s = let is = s.0.announced in absurd cc

-- ---- the bytes that are missing

-- with missing bytes of both, the frames are the same but for the check sequence
pub record Completes (packet other : Packet) (more rest : List ℕ) : Type 0 where
  pub packet_is : IsCompletion packet more
  pub other_is : IsCompletion other rest
  pub fcs : List ℕ
  pub four : length fcs ≡ 4
  pub joined : packet.frame.now ++ more ≡ (other.frame.now ++ rest) ++ fcs

completed_of : (packet other : Packet) (more : List ℕ) → IsWithoutFcs packet other → IsCompletion packet more
    → (rest : List ℕ) × Completes packet other more rest
completed_of packet other more w c =
    let n = frame_total other in
    let list = packet.frame.now ++ more in
    let rest = take (n - length packet.frame.now) more in
    let len = length-append packet.frame.now more in (
      rest,
      record {
        packet_is = c;
        other_is = record {
          are_bytes = IsBytes-take (n - length packet.frame.now) more c.are_bytes;
          all = omega (
            arith,
            length-take (n - length packet.frame.now) more,
            c.all,
            w.total,
            ap length w.frame,
            length-take n packet.frame.now,
          );
        };
        fcs = drop n list;
        four = omega (arith, length-drop n list, len, c.all, w.total);
        joined = sym (take-append-drop n list)
            ∙ ap (λ (l : List ℕ). l ++ drop n list) (taken_more n packet.frame.now more
            ∙ ap (λ (l : List ℕ). l ++ rest) (sym w.frame));
      },
    )

completed_by : (packet other : Packet) (rest : List ℕ) → IsBytes packet.frame.now → IsWithoutFcs packet other
    → IsCompletion other rest → (more : List ℕ) × Completes packet other more rest
completed_by packet other rest ok w c =
    let n = frame_total other in
    let body = other.frame.now ++ rest in
    let len : length body ≡ n = omega (arith, length-append other.frame.now rest, c.all) in
    let on : Continues (take n packet.frame.now) n body = record {
      more = rest;
      is = ap (λ (l : List ℕ). l ++ rest) w.frame;
      len = len;
      are_bytes = IsBytes-append other.frame.now rest (subst IsBytes (sym w.frame) (IsBytes-take n packet.frame.now ok))
          c.are_bytes;
    } in
    let r = refill packet.frame.now body n (frame_total packet) (omega (arith, w.total)) (omega arith) on in (
      r.rest,
      record {
        packet_is = record { are_bytes = r.ok; all = omega (arith, r.all) };
        other_is = c;
        fcs = r.tail;
        four = omega (
          arith,
          ap length r.is,
          length-append packet.frame.now r.rest,
          length-append body r.tail,
          len,
          r.all,
          w.total,
        );
        joined = r.is;
      },
    )

-- ---- completed packets

-- what is so of a packet with its check sequence is so without it, and the other way round
abbrev pub AreAlike : (packet other : Packet) (Is Are : Walked → Type 0) → Type 0
AreAlike packet other Is Are =
    (v : Ethernet2Value) (hs : List Header) (e f : Ending) → refusal_of e ≡ refusal_of f
    → Is (walked packet (headers.Ethernet2Fcs v ∷ hs) e) ↔ Are (walked other (headers.Ethernet2 v ∷ hs) f)

body_long : (packet other : Packet) (rest : List ℕ) → IsWithoutFcs packet other → IsCompletion other rest
    → 14 ≤ length (other.frame.now ++ rest)
body_long packet other rest w c = omega (arith, length-append other.frame.now rest, c.all, w.room)

some_without : (packet other : Packet) (Is Are : Walked → Type 0) → IsWithoutFcs packet other
    → AreAlike packet other Is Are → SomeCompletion packet Is → SomeCompletion other Are
some_without packet other Is Are w same s =
    let c = completed_of packet other s.more w s.completes in
    let body = other.frame.now ++ c.0 in
    let walk = subst (λ (l : List ℕ). Walk fcs_start l s.headers s.ending) c.1.joined
    (subst (λ (p : PeelStart). Walk (start_of p) (packet.frame.now ++ s.more) s.headers s.ending) w.with_fcs s.walk) in
    let t = plain body c.1.fcs s.headers s.ending c.1.four (body_long packet other c.0 w c.1.other_is) walk in
    record {
      more = c.0;
      headers = headers.Ethernet2 t.value ∷ t.later;
      ending = t.ending;
      completes = c.1.other_is;
      walk = subst (λ (p : PeelStart). Walk (start_of p) body (headers.Ethernet2 t.value ∷ t.later) t.ending)
          (sym w.without_fcs) t.walk;
      holds = (same t.value t.later s.ending t.ending (sym t.refused)).0
          (subst (λ (l : List Header). Is (walked packet l s.ending)) t.headers_are s.holds);
    }

some_with : (packet other : Packet) (Is Are : Walked → Type 0) → IsBytes packet.frame.now → IsWithoutFcs packet other
    → AreAlike packet other Is Are → SomeCompletion other Are → SomeCompletion packet Is
some_with packet other Is Are ok w same s =
    let c = completed_by packet other s.more ok w s.completes in
    let body = other.frame.now ++ s.more in
    let walk =
    subst (λ (p : PeelStart). Walk (start_of p) body s.headers s.ending) w.without_fcs s.walk in
    let t = with_fcs body c.1.fcs s.headers s.ending c.1.four (body_long packet other s.more w s.completes) walk in
    let ks = headers.Ethernet2Fcs t.value ∷ t.later in
    record {
      more = c.0;
      headers = ks;
      ending = t.ending;
      completes = c.1.packet_is;
      walk = subst (λ (p : PeelStart). Walk (start_of p) (packet.frame.now ++ c.0) ks t.ending) (sym w.with_fcs)
          (subst (λ (l : List ℕ). Walk fcs_start l ks t.ending) (sym c.1.joined) t.walk);
      holds = (same t.value t.later t.ending s.ending t.refused).1
          (subst (λ (l : List Header). Are (walked other l s.ending)) t.headers_are s.holds);
    }

-- some completed packet has it exactly if some has without its check sequence
pub some_alike : (packet other : Packet) (Is Are : Walked → Type 0) → IsBytes packet.frame.now
    → IsWithoutFcs packet other → AreAlike packet other Is Are → SomeCompletion packet Is ↔ SomeCompletion other Are
some_alike packet other Is Are ok w same =
    (some_without packet other Is Are w same, some_with packet other Is Are ok w same)

-- ---- primitives

-- what announces the header is no ether type
same_types : (packet other : Packet) (v : Ethernet2Value) (hs : List Header) → IsWithoutFcs packet other
    → ether_types (next_of packet.start) (headers.Ethernet2Fcs v ∷ hs)
    ≡ ether_types (next_of other.start) (headers.Ethernet2 v ∷ hs)
same_types packet other v hs w =
    ap (λ (p : PeelStart). ether_types (next_of p) (headers.Ethernet2Fcs v ∷ hs)) w.with_fcs
    ∙ ap (λ (p : PeelStart). ether_types (next_of p) (headers.Ethernet2 v ∷ hs)) (sym w.without_fcs)

-- a primitive that does not ask about the lengths
pub same_matches : (packet other : Packet) (p : Primitive) → is_of_lengths p ≡ false → IsWithoutFcs packet other
    → AreAlike packet other (Matches p) (Matches p)
same_matches packet other primitives.Cut of_none w v hs e f same = absurd cc
same_matches packet other (primitives.Less n) of_none w v hs e f same = absurd cc
same_matches packet other (primitives.Greater n) of_none w v hs e f same = absurd cc
same_matches packet other (primitives.Frame t) of_none w v hs e f same = absurd cc
same_matches packet other primitives.Refused of_none w v hs e f same =
    (subst IsSome same, subst IsSome (sym same))
same_matches packet other (primitives.EtherType t) of_none w v hs e f same =
    same_truth (ap (list_any (nat_eq t)) (same_types packet other v hs w))
same_matches packet other p of_none w v hs e f same = (λ m. m, λ m. m)

pub some_match : (packet other : Packet) (p : Primitive) → IsBytes packet.frame.now → is_of_lengths p ≡ false
    → IsWithoutFcs packet other → SomeCompletion packet (Matches p) ↔ SomeCompletion other (Matches p)
some_match packet other p ok of_none w =
    some_alike packet other (Matches p) (Matches p) ok w (same_matches packet other p of_none w)

pub some_fail : (packet other : Packet) (p : Primitive) → IsBytes packet.frame.now → is_of_lengths p ≡ false
    → IsWithoutFcs packet other
    → SomeCompletion packet (λ w. Matches p w → ⊥) ↔ SomeCompletion other (λ w. Matches p w → ⊥)
some_fail packet other p ok of_none w =
    some_alike packet other (λ w. Matches p w → ⊥) (λ w. Matches p w → ⊥) ok w
    (λ v hs e f same. (
      λ never m. never ((same_matches packet other p of_none w v hs e f same).1 m),
      λ never m. never ((same_matches packet other p of_none w v hs e f same).0 m),
    ))

-- what is possible is the same
pub possible_without_fcs : (packet other : Packet) (p : Primitive) (can : Can) → IsBytes packet.frame.now
    → is_of_lengths p ≡ false → IsWithoutFcs packet other → IsPossible other p can ↔ IsPossible packet p can
possible_without_fcs packet other p can ok of_none w =
    let a = some_match packet other p ok of_none w in
    let b = some_fail packet other p ok of_none w in (
      λ is. record {
        matches = (λ t. a.1 (is.matches.0 t), λ s. is.matches.1 (a.0 s));
        fails = (λ t. b.1 (is.fails.0 t), λ s. is.fails.1 (b.0 s));
      },
      λ is. record {
        matches = (λ t. a.0 (is.matches.0 t), λ s. is.matches.1 (a.1 s));
        fails = (λ t. b.0 (is.fails.0 t), λ s. is.fails.1 (b.1 s));
      },
    )

pub other_without : (packet other : Packet) → IsWithoutFcs packet other → has_fcs (start_of other.start) ≡ false
other_without packet other w = ap (λ (p : PeelStart). has_fcs (start_of p)) w.without_fcs

-- ---- frames without room for a check sequence

short_walk : (list : List ℕ) → length list < 18
    → (e : Ending) × Walk fcs_start list [] e × (is_some (refusal_of e) ≡ true)
short_walk list lt =
    let v = whole fcs_start list in
    let row = rows.ethernet2_fcs (omega (arith, whole_len fcs_start list, lt)) in
    let r = Length 18 (length (within list v)) sources.Slice layers.Ethernet2Header in
    (Fault v fcs_start r, (refl, refl, kinds.Ethernet2Fcs, refl, row), refl)

pub fcs_start_is : (s : PeelStart) → has_fcs (start_of s) ≡ true → s ≡ starts.Ethernet2Fcs
fcs_start_is starts.Ethernet2Fcs is = refl
fcs_start_is starts.Ethernet2 is = absurd cc
fcs_start_is starts.LinuxSll is = absurd cc
fcs_start_is (starts.EtherType t) is = absurd cc

-- all completed packets are refused
pub refused_without_room : (packet : Packet) → has_fcs (start_of packet.start) ≡ true → frame_total packet < 18
    → AreAll packet [] true
refused_without_room packet is lt more c =
    let list = packet.frame.now ++ more in
    let s = short_walk list (omega (arith, length-append packet.frame.now more, c.all, lt)) in
    (s.0, subst (λ (p : PeelStart). Walk (start_of p) list [] s.0) (sym (fcs_start_is packet.start is)) s.1, s.2)
