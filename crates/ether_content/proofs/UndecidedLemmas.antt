-- Which packets a filter can't decide, by the bytes that were captured.
use Rattle.std.proofs.Common.{ℕ, List, Bool, true, false, ap, refl, sym, ◌∙◌, subst, inl, inr, arith}
use Rattle.std.specs.Prelude.{◌≡◌, ◌<◌, Option, Some, None, is_some, not, IsTrue, ◌↔◌}
use Rattle.std.specs.Option.{option_map}
use Rattle.etherparse.specs.Header.{Header}
use Rattle.ether_base.specs.Bytes.{IsBytes}
use Rattle.ether_peel.specs.Grammar.Expectation.{Next}
use Rattle.ether_peel.specs.Grammar.Stack.{Ending, Walk, whole}
use Rattle.ether_peel.specs.Walker.Start.{next_of, start_of}
use Rattle.ether_peel.specs.declared.start.Start.{Start}
use Rattle.ether_peel.specs.declared.start.Start.TheVariants as starts
use Rattle.ether_peel.proofs.Grammar.Stacks.{some_stack}
use Rattle.ether_filter.specs.Deciding as deciding
use Rattle.ether_filter.specs.Deciding.{IsOpenAt, IsFieldKnown, neutral, Knows, KnowsTest, NeedsLen, NeedsTest, Says}
use Rattle.ether_filter.specs.Expressions.{Expression, Test, Not, Join}
use Rattle.ether_filter.specs.Later.{SomeCompletion}
use Rattle.ether_filter.specs.Needed.{HasMore, IsLeast}
use Rattle.ether_filter.specs.Primitives.{Walked, Matches}
use Rattle.ether_filter.specs.Prospects.{AtCompletions}
use Rattle.ether_filter.specs.declared.field_test.FieldTest.{FieldTest}
use Rattle.ether_filter.specs.declared.decision.Decision.{Decision}
use Rattle.ether_filter.specs.declared.decision.Decision.TheVariants as decisions
use Rattle.ether_filter.specs.Evaluation.{decided}
use Rattle.ether_filter.proofs.Truth.{one_truth}
use Rattle.ether_filter.specs.declared.node.Operator.TheVariants as operators
use Rattle.ether_filter.specs.declared.packet.Packet.{Packet}
use Rattle.ether_filter.specs.declared.packet.PacketTime.{PacketTime}
use Rattle.ether_filter.specs.declared.primitive.Primitive.{Primitive}
use Rattle.ether_filter.specs.declared.primitive.Primitive.TheVariants as primitives
use Rattle.ether_pcap.specs.Capture.{PacketValue}
use Rattle.ether_content.specs.Content.{IsWalked, content_of}
use Rattle.ether_content.specs.Selecting.{Decides, IsAnswer, IsAskedOf, IsHeaderCut, IsOutcome, LacksBytes, Selects, has_other_fcs, missing_len, time_view, with_fcs}
use Rattle.ether_content.specs.Selecting as selecting
use Rattle.ether_content.proofs.ContentLemmas.{walked_once}

-- ---- where a frame lies is nothing that a decision knows

-- the same packet, whose frame lies elsewhere
abbrev moved : Packet → ℕ × ℕ → Packet
moved packet place = record {
  start = packet.start;
  frame = record { ref_ptr = place; now = packet.frame.now };
  captured_len = packet.captured_len;
  original_len = packet.original_len;
  time = packet.time;
}

module _ (q : Packet) (place : ℕ × ℕ) where
  open-there : (e : Ending) (n : ℕ) → IsOpenAt q e n → IsOpenAt (moved q place) e n
  open-there e n (deciding.refused o cut names within) = deciding.refused o cut names within
  open-there e n (deciding.fcs has cut is) = deciding.fcs has cut is

  open-here : (e : Ending) (n : ℕ) → IsOpenAt (moved q place) e n → IsOpenAt q e n
  open-here e n (deciding.refused o cut names within) = deciding.refused o cut names within
  open-here e n (deciding.fcs has cut is) = deciding.fcs has cut is

  known-here : (hs : List Header) (e : Ending) (t : FieldTest) → IsFieldKnown (moved q place) hs e t
      → IsFieldKnown q hs e t
  known-here hs e t (deciding.whole is) = deciding.whole (λ n more. is n (open-there e n more))
  known-here hs e t (deciding.told has told) = deciding.told has told
  known-here hs e t (deciding.passed o can) = deciding.passed o can

  known-there : (hs : List Header) (e : Ending) (t : FieldTest) → IsFieldKnown q hs e t
      → IsFieldKnown (moved q place) hs e t
  known-there hs e t (deciding.whole is) = deciding.whole (λ n more. is n (open-here e n more))
  known-there hs e t (deciding.told has told) = deciding.told has told
  known-there hs e t (deciding.passed o can) = deciding.passed o can

  all-here : (Is : Walked → Type 0) → AtCompletions (moved q place) Is → AtCompletions q Is
  all-here Is all more hs e c walk = all more hs e (record { are_bytes = c.are_bytes; all = c.all }) walk

  some-here : (Is : Walked → Type 0) → SomeCompletion (moved q place) Is → SomeCompletion q Is
  some-here Is some = record {
    more = some.more;
    headers = some.headers;
    ending = some.ending;
    completes = record { are_bytes = some.completes.are_bytes; all = some.completes.all };
    walk = some.walk;
    holds = some.holds;
  }

  more-here : (longer : Packet) → HasMore (moved q place) longer → HasMore q longer
  more-here longer is =
      let by = is.captures in
      record {
        captures = record {
          more = by.more;
          start = by.start;
          frame = by.frame;
          captured = by.captured;
          original = by.original;
          time = by.time;
        };
        are_bytes = is.are_bytes;
        within = is.within;
      }

  more-there : (longer : Packet) → HasMore q longer → HasMore (moved q place) longer
  more-there longer is =
      let by = is.captures in
      record {
        captures = record {
          more = by.more;
          start = by.start;
          frame = by.frame;
          captured = by.captured;
          original = by.original;
          time = by.time;
        };
        are_bytes = is.are_bytes;
        within = is.within;
      }

  least-here : (p : Primitive) (n : ℕ) → IsLeast (moved q place) p n → IsLeast q p n
  least-here p n is =
      let by = is.decides in
      record {
        stays = λ longer more lt. is.stays longer (more-there longer more) lt;
        decides = (by.0, more-here by.0 by.1, by.2, by.3);
      }

  test-here : (hs : List Header) (e : Ending) (truth : Bool) (p : Primitive)
      → KnowsTest (moved q place) hs e truth p → KnowsTest q hs e truth p
  test-here hs e true (primitives.Field t) is = (known-here hs e t is.0, is.1)
  test-here hs e false (primitives.Field t) is = (known-here hs e t is.0, is.1)
  test-here hs e true p is = all-here (Matches p) is
  test-here hs e false p is = all-here (λ w. Matches p w → ⊥) is

  needs-test : (hs : List Header) (e : Ending) (n : ℕ) (p : Primitive) → NeedsTest (moved q place) hs e n p
      → NeedsTest q hs e n p
  needs-test hs e n (primitives.Field t) is =
      (λ known. is.0 (known-there hs e t known), open-here e n is.1)
  needs-test hs e n p is =
      ((some-here (Matches p) is.0.0, some-here (λ w. Matches p w → ⊥) is.0.1), least-here p n is.1)

  knows-here : (hs : List Header) (e : Ending) (x : Expression) (truth : Bool)
      → Knows (moved q place) hs e truth x → Knows q hs e truth x
  knows-here hs e (Test p) truth is = test-here hs e truth p is
  knows-here hs e (Not x) true is = knows-here hs e x false is
  knows-here hs e (Not x) false is = knows-here hs e x true is
  knows-here hs e (Join operators.And x y) true is = (knows-here hs e x true is.0, knows-here hs e y true is.1)
  knows-here hs e (Join operators.And x y) false (inl is) = inl (knows-here hs e x false is)
  knows-here hs e (Join operators.And x y) false (inr is) = inr (knows-here hs e y false is)
  knows-here hs e (Join operators.Or x y) true (inl is) = inl (knows-here hs e x true is)
  knows-here hs e (Join operators.Or x y) true (inr is) = inr (knows-here hs e y true is)
  knows-here hs e (Join operators.Or x y) false is = (knows-here hs e x false is.0, knows-here hs e y false is.1)

  len-here : (hs : List Header) (e : Ending) (n : ℕ) (x : Expression) → NeedsLen (moved q place) hs e n x
      → NeedsLen q hs e n x
  len-here hs e n (Test p) is = needs-test hs e n p is
  len-here hs e n (Not x) is = len-here hs e n x is
  len-here hs e n (Join o x y) (inl is) = inl (knows-here hs e x (neutral o) is.0, len-here hs e n y is.1)
  len-here hs e n (Join o x y) (inr (inl is)) =
      inr (inl (len-here hs e n x is.0, knows-here hs e y (neutral o) is.1))
  len-here hs e n (Join o x y) (inr (inr is)) =
      inr (inr (is.0, is.1, len-here hs e is.0 x is.2, len-here hs e is.1 y is.3, is.4))

  says-here : (hs : List Header) (e : Ending) (x : Expression) (d : Decision) → Says (moved q place) hs e x d
      → Says q hs e x d
  says-here hs e x decisions.Matches is = knows-here hs e x true is
  says-here hs e x decisions.Fails is = knows-here hs e x false is
  says-here hs e x (decisions.Needs n) is = len-here hs e n x is

  decides-here : (x : Expression) (d : Decision) → Decides x (moved q place) d → Decides x q d
  decides-here x d is = record {
    headers = is.headers;
    ending = is.ending;
    walk = is.walk;
    says = says-here is.headers is.ending x d is.says;
  }

  answer-here : (x : Expression) (answer : Option Bool) → IsAnswer x (moved q place) answer → IsAnswer x q answer
  answer-here x None is = (is.0, decides-here x (decisions.Needs is.0) is.1)
  answer-here x (Some truth) is = decides-here x (decided truth) is

-- ---- a packet is asked about in one way

one-start : (a b : Start) → next_of a ≡ next_of b → a ≡ b
one-start starts.Ethernet2 starts.Ethernet2 e = refl
one-start starts.Ethernet2Fcs starts.Ethernet2Fcs e = refl
one-start starts.LinuxSll starts.LinuxSll e = refl
one-start (starts.EtherType t) (starts.EtherType u) e =
    let n : t.0 ≡ u.0 = cc in ap (λ k. starts.EtherType (record { 0 = k })) n
one-start _ _ e = absurd cc

one-packet : (a b : Packet) → a.start ≡ b.start → a.frame.now ≡ b.frame.now → a.captured_len ≡ b.captured_len
    → a.original_len ≡ b.original_len → a.time ≡ b.time → a ≡ moved b a.frame.ref_ptr
one-packet a b start frame captured original time = λ i. record {
  start = start i;
  frame = record { ref_ptr = a.frame.ref_ptr; now = frame i };
  captured_len = captured i;
  original_len = original i;
  time = time i;
}

one-time : (a b : Option PacketTime) → option_map time_view a ≡ option_map time_view b → a ≡ b
one-time None None is = refl
one-time (Some s) (Some t) is =
    let same : time_view s ≡ time_view t = cc in
    (λ i. Some (record { seconds = (same i).seconds; nanoseconds = (same i).nanoseconds }))
one-time None (Some t) is = absurd cc
one-time (Some s) None is = absurd cc

-- ---- what is decided

-- the answer of a decision
abbrev pub answer_of : Decision → Option Bool
answer_of decisions.Matches = Some true
answer_of decisions.Fails = Some false
answer_of (decisions.Needs n) = None

some_answer : (x : Expression) (asked : Packet) (d : Decision) → Decides x asked d → IsAnswer x asked (answer_of d)
some_answer x asked decisions.Matches is = is
some_answer x asked decisions.Fails is = is
some_answer x asked (decisions.Needs n) is = (n, is)

-- a decision that is said of each walk is the only answer
pub one_answer : (x : Expression) (asked : Packet) (d : Decision) → IsBytes asked.frame.now
    → ((hs : List Header) (e : Ending) → Walk (start_of asked.start) asked.frame.now hs e → (other : Decision)
    → (d ≡ other) ↔ Says asked hs e x other)
    → (answer : Option Bool) → (answer_of d ≡ answer) ↔ IsAnswer x asked answer
one_answer x asked d ok says answer = (
  λ is.
      let some = some_stack asked.frame.now (start_of asked.start) (whole (start_of asked.start) asked.frame.now) ok in
      let decides : Decides x asked d = record {
        headers = some.0;
        ending = some.1;
        walk = some.2;
        says = (says some.0 some.1 some.2 d).0 refl;
      } in
      subst (IsAnswer x asked) is (some_answer x asked d decides),
  λ is. back answer is,
)
  where
    same : (other : Decision) → Decides x asked other → answer_of d ≡ answer_of other
    same other is = ap answer_of ((says is.headers is.ending is.walk other).1 is.says)

    back : (answer : Option Bool) → IsAnswer x asked answer → answer_of d ≡ answer
    back None is = same (decisions.Needs is.0) is.1
    back (Some true) is = same decisions.Matches is
    back (Some false) is = same decisions.Fails is

pub same_answer : (x : Expression) (asked other : Packet) (d e : Decision) → asked ≡ other → d ≡ e
    → IsBytes asked.frame.now
    → ((hs : List Header) (e : Ending) → Walk (start_of asked.start) asked.frame.now hs e → (other : Decision)
    → (d ≡ other) ↔ Says asked hs e x other)
    → (answer : Option Bool) → (answer_of e ≡ answer) ↔ IsAnswer x other answer
same_answer x asked other d e packet is ok says answer =
    subst (λ (a : Packet). (answer_of e ≡ answer) ↔ IsAnswer x a answer) packet
    (subst (λ (f : Decision). (answer_of f ≡ answer) ↔ IsAnswer x asked answer) is
    (one_answer x asked d ok says answer))

pub none_is : (o : Option Bool) (b : Bool) → is_some o ≡ not b → IsTrue b ↔ (o ≡ None)
none_is None true is = (λ t. refl, λ none. refl)
none_is None false is = absurd cc
none_is (Some c) true is = absurd cc
none_is (Some c) false is = (λ t. absurd cc, λ none. absurd cc)

-- ---- what the captured bytes decide

-- .. if none are missing
pub whole_outcome : (x : Expression) (p : PacketValue) (truth : Bool) → missing_len p ≡ 0
    → IsTrue truth ↔ Selects x p → (outcome : Option Bool) → (Some truth ≡ outcome) ↔ IsOutcome x p outcome
whole_outcome x p truth none selects outcome = (
  λ is. subst (IsOutcome x p) is (selecting.whole none selects),
  λ is. back outcome is,
)
  where
    back : (outcome : Option Bool) → IsOutcome x p outcome → Some truth ≡ outcome
    back None (selecting.walk lacks asked is more) = let some = lacks.lacks in absurd (omega (arith, some, none))
    back None (selecting.header some is) = absurd (omega (arith, some, none))
    back None (selecting.fcs some is) = absurd (omega (arith, some, none))
    back (Some other) (selecting.whole _ also) = ap Some (one_truth truth other selects also)
    back (Some other) (selecting.walk lacks asked is more) =
        let some = lacks.lacks in absurd (omega (arith, some, none))
    back (Some other) (selecting.unwalked lacks never is) =
        let some = lacks.lacks in absurd (omega (arith, some, none))

-- .. if the header of cooked capture was cut
pub header_outcome : (x : Expression) (p : PacketValue) → 0 < missing_len p → IsHeaderCut p
    → (outcome : Option Bool) → (None ≡ outcome) ↔ IsOutcome x p outcome
header_outcome x p some cut outcome = (
  λ is. subst (IsOutcome x p) is (selecting.header some cut),
  λ is. back outcome
      is,
)
  where
    back : (outcome : Option Bool) → IsOutcome x p outcome → None ≡ outcome
    back None is = refl
    back (Some other) (selecting.whole none also) = absurd (omega (arith, some, none))
    back (Some other) (selecting.walk lacks asked is more) = absurd (lacks.known cut)
    back (Some other) (selecting.unwalked lacks never is) = absurd (lacks.known cut)

-- .. if the frame check sequence has no meaning
pub fcs_outcome : (x : Expression) (p : PacketValue) → 0 < missing_len p → has_other_fcs p ≡ true
    → (outcome : Option Bool) → (None ≡ outcome) ↔ IsOutcome x p outcome
fcs_outcome x p some other outcome = (λ is. subst (IsOutcome x p) is (selecting.fcs some other), λ is. back outcome is)
  where
    back : (outcome : Option Bool) → IsOutcome x p outcome → None ≡ outcome
    back None is = refl
    back (Some truth) (selecting.whole none also) = absurd (omega (arith, some, none))
    back (Some truth) (selecting.walk lacks asked is more) =
        let both : true ≡ false = sym other ∙ lacks.fcs in absurd cc
    back (Some truth) (selecting.unwalked lacks never is) =
        let both : true ≡ false = sym other ∙ lacks.fcs in absurd cc

-- .. if nothing is walked
pub unwalked_outcome : (x : Expression) (p : PacketValue) → LacksBytes p
    → ((next : Next) (frame : List ℕ) → IsWalked (content_of p) next frame → ⊥)
    → (outcome : Option Bool) → (Some false ≡ outcome) ↔ IsOutcome x p outcome
unwalked_outcome x p lacks never outcome = (
  λ is. subst (IsOutcome x p) is (selecting.unwalked lacks never refl),
  λ is. back outcome is,
)
  where
    back : (outcome : Option Bool) → IsOutcome x p outcome → Some false ≡ outcome
    back None (selecting.walk _ asked is more) =
        absurd (never is.next asked.frame.now is.walked)
    back None (selecting.header some is) = absurd (lacks.known is)
    back None (selecting.fcs some is) = let both : true ≡ false = sym is ∙ lacks.fcs in absurd cc
    back (Some other) (selecting.whole none also) = let some = lacks.lacks in absurd (omega (arith, some, none))
    back (Some other) (selecting.walk _ asked is more) =
        absurd (never is.next asked.frame.now is.walked)
    back (Some other) (selecting.unwalked _ _ is) = ap Some (sym is)

-- .. of any other packet
pub asked_outcome : (x : Expression) (p : PacketValue) (asked : Packet) (result : Option Bool) → LacksBytes p
    → IsAskedOf p asked → ((answer : Option Bool) → (result ≡ answer) ↔ IsAnswer x asked answer)
    → (outcome : Option Bool) → (result ≡ outcome) ↔ IsOutcome x p outcome
asked_outcome x p asked result lacks is answers outcome = (λ same. there outcome same, λ so. back outcome so)
  where
    there : (outcome : Option Bool) → result ≡ outcome → IsOutcome x p outcome
    there None same = selecting.walk lacks asked is ((answers None).0 same)
    there (Some truth) same = selecting.walk lacks asked is ((answers (Some truth)).0 same)

    by_other : (other : Packet) (answer : Option Bool) → IsAskedOf p other → IsAnswer x other answer → result ≡ answer
    by_other other answer also so =
        let one = walked_once (content_of p) also.next is.next other.frame.now asked.frame.now also.walked is.walked in
        let starts = also.start ∙ ap (with_fcs p) one.0 ∙ sym is.start in
        let at = one-packet other asked (one-start other.start asked.start starts) one.1
        (also.captured ∙ sym is.captured) (also.original ∙ sym is.original)
        (one-time other.time asked.time (also.time ∙ sym is.time)) in
        (answers answer).1 (answer-here asked other.frame.ref_ptr x answer
        (subst (λ (a : Packet). IsAnswer x a answer) at so))

    back : (outcome : Option Bool) → IsOutcome x p outcome → result ≡ outcome
    back None (selecting.walk _ other also so) = by_other other None also so
    back None (selecting.header some cut) = absurd (lacks.known cut)
    back None (selecting.fcs some so) = let both : true ≡ false = sym so ∙ lacks.fcs in absurd cc
    back (Some truth) (selecting.whole none also) = let some = lacks.lacks in absurd (omega (arith, some, none))
    back (Some truth) (selecting.walk _ other also so) = by_other other (Some truth) also so
    back (Some truth) (selecting.unwalked _ never so) =
        absurd (never is.next asked.frame.now is.walked)
