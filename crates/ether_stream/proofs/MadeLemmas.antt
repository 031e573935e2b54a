-- What is made of the units of a capture, one after another.
use Rattle.std.proofs.Common.{◌≡◌, ℕ, ◌+◌, ◌≤◌, ◌⊎◌, List, [], ◌∷◌, ◌++◌, length, take, drop, Bool, true, false, ◌&&◌, Option, Some, None, unwrap_or, refl, sym, ap, subst, ◌∙◌, arith, append_assoc, append-nil, inl, inr, rules}
use Rattle.std.proofs.Math.Bool.{and_assoc}
use Rattle.std.proofs.lemmas.List.{length-append, take-append-drop, length-take-le}
use Rattle.std.proofs.lemmas.List.Sums.{sum_by-append}
use Rattle.std.specs.List.{sum_by}
use Rattle.ether_stream.specs.declared.selection.Selection.{Selection}
use Rattle.ether_pcap.specs.Capture.{PacketValue, CaptureExpectation, Begins}
use Rattle.ether_pcap.specs.CopiedUnits.{ModeValue, other_unit, packet_after}
use Rattle.ether_pcap.specs.Copies.{Selected, none, one_kept, one_left}
use Rattle.ether_pcap.proofs.CaptureLocality.{unit_alone}
use Rattle.ether_pcap.proofs.PacketUnits.{same_after}
use Rattle.ether_content.specs.Editing.{EditValue}
use Rattle.ether_text.specs.Verdict.{verdict_of, verdict_with}
use Rattle.ether_stream.specs.Answering.{AreAnswered}
use Rattle.ether_stream.specs.Copying.{CopiesOn}
use Rattle.ether_stream.specs.FrameLines.{AnswersPacket, skip_count}
use Rattle.ether_stream.specs.Packets.{capture_start, counted}
use Rattle.ether_stream.specs.Progress.{Made, IsUnitOf, Writes, writes_unit, writes_nothing, writes_packet, Makes, other_text}
use Rattle.ether_stream.specs.Task.{Copy, FormValue, IsChosen, Lines, LinesValue, packets_before}
use Rattle.ether_stream.proofs.CopiesLemmas.{CopiesOn-start, CopiesOn-unit, CopiesOn-kept, CopiesOn-left, unit_there}

and_true : (b : Bool) → (true && b) ≡ (b && true)
and_true true = refl
and_true false = refl

pub verdict_with-verdict_of : (all accepted : Bool)
    → verdict_with (verdict_of all) accepted ≡ verdict_of (all && accepted)
verdict_with-verdict_of true accepted = refl
verdict_with-verdict_of false accepted = refl

and_is_true : (b : Bool) → (b && true) ≡ b
and_is_true true = refl
and_is_true false = refl

-- one answered packet more
pub AreAnswered-push : (select : Option Selection) (options : LinesValue) (before : ℕ) (packets : List PacketValue)
    (text : List ℕ) (all : Bool)
    (p : PacketValue) (more : List ℕ) (accepted : Bool)
    → AreAnswered select options before packets text all
    → AnswersPacket select options (counted (before + length packets + 1)) p more accepted
    → AreAnswered select options before (packets ++ p ∷ []) (text ++ more) (all && accepted)
AreAnswered-push select options before [] text all p more accepted so_far is =
    let n : before + length {A = PacketValue} [] + 1 ≡ before + 1 = omega arith in search (rules, append-nil, and_true)
AreAnswered-push select options before (first ∷ others) text all p more accepted so_far is =
    let (one, one_accepted, rest, others_accepted, here, there, whole, every) = so_far in
    let n : before + length (first ∷ others) + 1 ≡ before + 1 + length others + 1 = omega arith in (
      one,
      one_accepted,
      rest ++ more,
      others_accepted && accepted,
      here,
      AreAnswered-push select options (before + 1) others rest others_accepted p more accepted there
          (subst (λ (k : ℕ). AnswersPacket select options (counted k) p more accepted) n is),
      ap (λ (t : List ℕ). t ++ more) whole ∙ append_assoc one rest more,
      ap (λ (b : Bool). b && accepted) every ∙ and_assoc one_accepted others_accepted accepted,
    )

-- what was skipped, and one packet more
pub skipped-push : (packets : List PacketValue) (p : PacketValue)
    → sum_by skip_count (packets ++ p ∷ []) ≡ sum_by skip_count packets + skip_count p
skipped-push packets p = sum_by-append skip_count packets (p ∷ []) ∙ last
  where
    last : sum_by skip_count packets + sum_by skip_count (p ∷ []) ≡ sum_by skip_count packets + skip_count p
    last = omega arith

some_text : (a b : List ℕ) → Some a ≡ Some b → a ≡ b
some_text a b e = ap (λ (o : Option (List ℕ)). unwrap_or o a) e

pub some_none : (a : List ℕ) → Some a ≡ None → ⊥
some_none a e = absurd cc

-- the front with a unit more
pub front_after : (input front buffered : List ℕ) (len : ℕ) → input ≡ front ++ buffered
    → input ≡ (front ++ take len buffered) ++ drop len buffered
front_after input front buffered len is = search (rules, take-append-drop, append_assoc)

pub front_len : (front buffered : List ℕ) (len : ℕ) → len ≤ length buffered
    → length (front ++ take len buffered) ≡ length front + len
front_len front buffered len within = search (rules, length-append, length-take-le)

-- ---- what is chosen

module _ (Is : PacketValue → Type 0) where
  -- a packet more, which is chosen
  pub chosen-push : (packets kept : List PacketValue) (p : PacketValue) → Is p
      → Selected Is packets kept → Selected Is (packets ++ p ∷ []) (kept ++ p ∷ [])
  chosen-push packets kept p is none = one_kept p [] [] is none
  chosen-push packets kept p is (one_kept q qs ks first others) =
      one_kept q (qs ++ p ∷ []) (ks ++ p ∷ []) first (chosen-push qs ks p is others)
  chosen-push packets kept p is (one_left q qs ks first others) =
      one_left q (qs ++ p ∷ []) (ks ++ p ∷ []) first (chosen-push qs ks p is others)

  -- .. or is not
  pub left-push : (packets kept : List PacketValue) (p : PacketValue) → ¬ (Is p)
      → Selected Is packets kept → Selected Is (packets ++ p ∷ []) kept
  left-push packets kept p is none = one_left p [] [] is none
  left-push packets kept p is (one_kept q qs ks first others) =
      one_kept q (qs ++ p ∷ []) ks first (left-push qs ks p is others)
  left-push packets kept p is (one_left q qs ks first others) =
      one_left q (qs ++ p ∷ []) ks first (left-push qs ks p is others)

-- ---- what is made

-- the packets with that of a unit, if it has one
abbrev pub with_packet : List PacketValue → Option PacketValue → List PacketValue
with_packet packets None = packets
with_packet packets (Some p) = packets ++ p ∷ []

-- .. if it is chosen
abbrev pub KeptMore : (select : Option Selection) → (old : List PacketValue) → Option PacketValue
    → (new : List PacketValue) → Type 0
KeptMore select old None new = new ≡ old
KeptMore select old (Some p) new = (IsChosen select p × (new ≡ old ++ p ∷ [])) ⊎ (¬ (IsChosen select p) × (new ≡ old))

-- what is made with a unit more
pub record MadeMore (select : Option Selection) (form : FormValue) (packets old : List PacketValue)
    (packet : Option PacketValue) (front text : List ℕ) (all : Bool) (x : CaptureExpectation) : Type 0 where
  pub kept : List PacketValue
  pub more : KeptMore select old packet kept
  pub selected : Selected (IsChosen select) (with_packet packets packet) kept
  pub made : Made select form (with_packet packets packet) kept front text all x

-- the lines of a packet that is chosen or not
answered_more : (select : Option Selection) (options : LinesValue) (packets kept : List PacketValue)
    (front text : List ℕ) (all : Bool) (x y : CaptureExpectation) (p : PacketValue) (own more : List ℕ)
    (accepted : Bool)
    → Selected (IsChosen select) packets kept → Made select (Lines options) packets kept front text all x
    → AnswersPacket select options (counted (packets_before (Lines options) + length packets + 1)) p more accepted
    → MadeMore select (Lines options) packets kept (Some p) (front ++ own) (text ++ more) (all && accepted) y
answered_more select options packets kept front text all x y p own more accepted selected made (inl is) = record {
  kept = kept ++ p ∷ [];
  more = inl (is.0, refl);
  selected = chosen-push (IsChosen select) packets kept p is.0 selected;
  made =
      AreAnswered-push select options (packets_before (Lines options)) packets text all p more accepted made (inl is);
}
answered_more select options packets kept front text all x y p own more accepted selected made (inr is) = record {
  kept = kept;
  more = inr (is.0, refl);
  selected = left-push (IsChosen select) packets kept p is.0 selected;
  made =
      AreAnswered-push select options (packets_before (Lines options)) packets text all p more accepted made (inr is);
}

-- the copy of a unit
copied_more : (mode : ModeValue) (select : Option Selection) (edit : Option EditValue) (packets kept : List PacketValue)
    (front copy : List ℕ) (all : Bool) (x y : CaptureExpectation) (buffered : List ℕ) (len : ℕ)
    (packet : Option PacketValue)
    (own more : List ℕ) (text : Option (List ℕ))
    → len ≤ length buffered → Begins buffered x len packet y → own ≡ take len buffered
    → Selected (IsChosen select) packets kept → Made select (Copy mode edit) packets kept front copy all x
    → text ≡ Some more → Writes mode select edit y own packet text
    → MadeMore select (Copy mode edit) packets kept packet (front ++ take len buffered) (copy ++ more) (all && true) y
copied_more mode select edit packets kept front copy all x y buffered len packet own more text within begins unit_is
    selected made is writes_unit =
    let same : other_unit mode y (take len buffered) ≡ more =
    ap (other_unit mode y) (sym unit_is) ∙ some_text (other_unit mode y own) more is in
    record {
      kept = kept;
      more = refl;
      selected = selected;
      made = (
        made.0,
        subst (λ (l : List ℕ). CopiesOn mode select edit (front ++ take len buffered) (copy ++ l) kept made.0 y) same
            (CopiesOn-unit mode select edit front copy kept made.0 x y buffered len within begins made.1),
        ap (λ (b : Bool). b && true) made.2,
      );
    }
copied_more mode select edit packets kept front copy all x y buffered len packet own more text within begins unit_is
    selected made is (writes_nothing p not_chosen) =
    let same : copy ≡ copy ++ more = sym (append-nil copy) ∙ ap (λ (l : List ℕ). copy ++ l) (some_text [] more is) in
    record {
      kept = kept;
      more = inr (not_chosen, refl);
      selected = left-push (IsChosen select) packets kept p not_chosen selected;
      made = (
        made.0,
        subst (λ (l : List ℕ). CopiesOn mode select edit (front ++ take len buffered) l kept made.0 y) same
            (CopiesOn-left mode select edit front copy kept made.0 p x y buffered len within begins not_chosen made.1),
        ap (λ (b : Bool). b && true) made.2,
      );
    }
copied_more mode select edit packets kept front copy all x y buffered len packet own more text within begins unit_is
    selected made is (writes_packet p o _ chosen edits e) =
    record {
      kept = kept ++ p ∷ [];
      more = inl (chosen, refl);
      selected = chosen-push (IsChosen select) packets kept p chosen selected;
      made = (
        made.0 ++ packet_after mode p o ∷ [],
        CopiesOn-kept mode select edit front copy more kept made.0 p o x y buffered len within begins chosen edits
            (unit_there mode y x own (take len buffered) p o (Some more) (same_after buffered x y len p begins) unit_is
            (e ∙ is))
            made.1,
        ap (λ (b : Bool). b && true) made.2,
      );
    }

-- the text of a unit that is no packet
pub other_made : (select : Option Selection) (form : FormValue) (x : CaptureExpectation) (number : ℕ) (unit : List ℕ)
    → Makes select form x number unit None true (Some (other_text form x unit))
other_made select (Lines options) x number unit = (refl, refl)
other_made select (Copy mode edit) x number unit = (writes_unit, refl)

-- .. and of a packet that is not chosen
pub left_made : (select : Option Selection) (form : FormValue) (x : CaptureExpectation) (number : ℕ) (unit : List ℕ)
    (p : PacketValue) → ¬ (IsChosen select p) → Makes select form x number unit (Some p) true (Some [])
left_made select (Lines options) x number unit p not_chosen = ([], inr (not_chosen, refl, refl), refl)
left_made select (Copy mode edit) x number unit p not_chosen = (writes_nothing p not_chosen, refl)

-- what is made of a unit
pub made_more : (select : Option Selection) (form : FormValue) (packets kept : List PacketValue) (front text : List ℕ)
    (all : Bool) (x y : CaptureExpectation) (buffered : List ℕ) (len number : ℕ) (packet : Option PacketValue)
    (own more : List ℕ) (accepted : Bool)
    → len ≤ length buffered → Begins buffered x len packet y → own ≡ take len buffered
    → number ≡ counted (packets_before form + length packets + 1)
    → Selected (IsChosen select) packets kept → Made select form packets kept front text all x
    → Makes select form y number own packet accepted (Some more)
    → MadeMore select form packets kept packet (front ++ take len buffered) (text ++ more) (all && accepted) y
made_more select (Lines options) packets kept front text all x y buffered len number None own more accepted within
    begins unit_is is selected made makes =
    let same : text ≡ text ++ more =
    sym (append-nil text) ∙ ap (λ (l : List ℕ). text ++ l) (sym (some_text more [] makes.0)) in
    let same_all : all ≡ (all && accepted) = sym (and_is_true all) ∙ ap (λ (b : Bool). all && b) (sym makes.1) in
    search rules
made_more select (Lines options) packets kept front text all x y buffered len number (Some p) own more accepted within
    begins unit_is is selected made (lines, answers, e) =
    let same : lines ≡ more = sym (some_text more lines e) in
    answered_more select options packets kept front text all x y p (take len buffered) more accepted selected made
    (subst (λ (n : ℕ). AnswersPacket select options n p more accepted) is
    (subst (λ (l : List ℕ). AnswersPacket select options number p l accepted) same answers))
made_more select (Copy mode edit) packets kept front text all x y buffered len number packet own more accepted within
    begins
    unit_is is selected made makes =
    subst
    (λ (b : Bool).
    MadeMore select (Copy mode edit) packets kept packet (front ++ take len buffered) (text ++ more) (all && b) y)
    (sym makes.1)
    (copied_more mode select edit packets kept front text all x y buffered len packet own more (Some more) within begins
    unit_is selected made refl makes.0)

-- nothing is made yet
pub made_start : (select : Option Selection) (form : FormValue) → Made select form [] [] [] [] true capture_start
made_start select (Lines options) = (refl, refl)
made_start select (Copy mode edit) = ([], CopiesOn-start mode select edit, refl)

-- a unit that was read, by its own bytes
own_unit : (buffered : List ℕ) (x y : CaptureExpectation) (len : ℕ) (packet : Option PacketValue)
    → len ≤ length buffered → Begins buffered x len packet y
    → Begins (take len buffered) x (length (take len buffered)) packet y
own_unit buffered x y len packet within begins =
    let front = take len buffered in
    let long : length front ≡ len = length-take-le len buffered within in
    let whole = subst (λ (l : List ℕ). Begins l x len packet y) (sym (take-append-drop len buffered)) begins in
    subst (λ (k : ℕ). Begins front x k packet y) (sym long)
    (unit_alone front (drop len buffered) x y len packet (omega (arith, long)) whole)

-- .. has this packet
pub packet_of_unit : (buffered : List ℕ) (x y : CaptureExpectation) (len : ℕ) (packet : Option PacketValue)
    → len ≤ length buffered → Begins buffered x len packet y → IsUnitOf y (take len buffered) packet
packet_of_unit buffered x y len None within begins = (x, own_unit buffered x y len None within begins)
packet_of_unit buffered x y len (Some p) within begins = search (rules, same_after, own_unit)
