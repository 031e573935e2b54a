-- How far a run has come, one unit of the capture after another.
use Rattle.std.proofs.Common.{◌≡◌, ◌≢◌, ℕ, zero, suc, ◌+◌, ◌-◌, ◌<◌, ◌≤◌, List, [], ◌∷◌, ◌++◌, length, take, drop, slice_range, Bool, true, ◌&&◌, Option, Some, None, unwrap_or, Result, Ok, Err, IsErrAnd, IfErr, refl, sym, ap, subst, ◌∙◌, arith, append_assoc, inl, inr, rules}
use Rattle.std.proofs.lemmas.List.{length-append, length-drop, take_all, length-take-le}
use Rattle.std.specs.List.{sum_by}
use Rattle.std.specs.Io.KnownBytes.{Appends}
use Rattle.ether_stream.specs.declared.selection.Selection.{Selection}
use Rattle.ether_pcap.specs.Capture.{PacketValue, CaptureExpectation, HasBegun, Begins}
use Rattle.ether_pcap.specs.Copies.{Selected, none}
use Rattle.ether_pcap.specs.Editing.{EditedValue}
use Rattle.ether_pcap.specs.CopiedUnits.{ModeValue, other_unit, unit_after}
use Rattle.ether_pcap.proofs.PacketUnits.{begun, same_after}
use Rattle.ether_content.specs.Editing.{EditValue}
use Rattle.ether_output.specs.OutputBuffer.{contents_of, WritesOut}
use Rattle.ether_text.specs.Verdict.{verdict_with}
use Rattle.ether_output.specs.declared.output_buffer.OutputBuffer.{OutputBuffer}
use Rattle.ether_text.specs.declared.verdict.Verdict.{Verdict}
use Rattle.ether_output.proofs.KnownBytesLemmas.{Appends-none, Appends-then}
use Rattle.ether_stream.specs.Copying.{EditsIf}
use Rattle.ether_stream.specs.Counting.{AreCounted}
use Rattle.ether_stream.specs.FrameLines.{skip_count}
use Rattle.ether_stream.specs.Packets.{counted, GoesOn, HasFewer, HasOpen, EndsAtCount, IsLeftOf}
use Rattle.ether_stream.specs.Progress.{CountsOpen, Made, LeavesLess, Reached, IsStart, counts_at, Writes, writes_unit, writes_nothing, writes_packet, Makes, Counts, TakesUnit, StopsUnwritten, Unedited, UneditedIn, StopsAfter, OnNotEdited}
use Rattle.ether_stream.specs.Task.{Copy, FormValue, IsBelow, IsChosen, IsOpen, Lines, LinesValue, TaskValue, packets_before}
use Rattle.ether_stream.specs.declared.outcome.RunFault.{RunFault}
use Rattle.ether_stream.specs.declared.outcome.RunFault.TheVariants as faults
use Rattle.ether_stream.specs.declared.progress.Progress.{Progress}
use Rattle.ether_stream.proofs.CopiesLemmas.{unit_there}
use Rattle.ether_stream.proofs.PacketsLemmas.{GoesOn-start, GoesOn-unit, GoesOn-packet}
use Rattle.ether_stream.proofs.MadeLemmas.{chosen-push, left-push, verdict_with-verdict_of, skipped-push, some_none, front_after, front_len, with_packet, KeptMore, made_more, made_start, packet_of_unit}

-- ---- how far the run has come

-- what follows is what a capture has first, with a unit more
goes_more : (front : List ℕ) (packets : List PacketValue) (packet : Option PacketValue) (x y : CaptureExpectation)
    (buffered : List ℕ) (len : ℕ)
    → len ≤ length buffered → Begins buffered x len packet y → GoesOn front packets x
    → GoesOn (front ++ take len buffered) (with_packet packets packet) y
goes_more front packets None x y buffered len within begins go = GoesOn-unit front packets x y buffered len within
    begins go
goes_more front packets (Some p) x y buffered len within begins go =
    GoesOn-packet front packets p x y buffered len within begins go

-- the counts with a unit more
counts_more : {X : Type 0} (select : Option Selection) (before : ℕ) (packets : List PacketValue)
    (packet : Option PacketValue)
    (old new : Progress X)
    → Counts select packet old new → old.count ≡ counted (before + length packets)
    → old.skipped ≡ counted (sum_by skip_count packets) → HasOpen select packets old.undecided
    → (new.count ≡ counted (before + length (with_packet packets packet)))
    × (new.skipped ≡ counted (sum_by skip_count (with_packet packets packet)))
    × HasOpen select (with_packet packets packet) new.undecided
counts_more select before packets None old new counts count skipped so_far = search rules
counts_more select before packets (Some p) old new counts count skipped so_far =
    let more = length-append packets (p ∷ []) in
    let skips = skipped-push packets p in
    let a = counts.0 in let b = counts.1 in
    (omega (arith, a, count, more), omega (arith, b, skipped, skips), open_more counts.2 so_far)
  where
    open_more : {old new : ℕ} → CountsOpen select p old new → HasOpen select packets old
        → HasOpen select (packets ++ p ∷ []) new
    open_more (inl (is, one)) has =
        let was = has.is_count in let long = length-append has.undecided (p ∷ []) in
        record {
          undecided = has.undecided ++ p ∷ [];
          selected = chosen-push (IsOpen select) packets has.undecided p is has.selected;
          is_count = omega (arith, one, was, long);
        }
    open_more (inr (not, same)) has = search (rules, left-push)

-- ---- how many packets are left that are asked for

some_number : (a b : ℕ) → Some a ≡ Some b → a ≡ b
some_number a b e = ap (λ (o : Option ℕ). unwrap_or o a) e

-- what is counted of those that are left
abbrev LeftMore : (select : Option Selection) → Option PacketValue → (old new : Option ℕ) → Type 0
LeftMore select None old new = new ≡ old
LeftMore select (Some p) old new = LeavesLess select p old new

left_counted : {X : Type 0} (select : Option Selection) (packet : Option PacketValue) (old new : Progress X)
    → Counts select packet old new → LeftMore select packet old.left new.left
left_counted select None old new counts = counts.3
left_counted select (Some p) old new counts = counts.3

-- with a packet that is chosen
chosen_left : (count : Option ℕ) (kept : List PacketValue) (p : PacketValue) (m : ℕ) (new : Option ℕ) → m ≢ 0
    → IsLeftOf count (length kept) (Some m) → new ≡ Some (m - 1)
    → IsLeftOf count (length (kept ++ p ∷ [])) new
chosen_left None kept p m new some is e = absurd cc
chosen_left (Some n) kept p m new some (l, left, sum) e =
    let long = length-append kept (p ∷ []) in
    let same = some_number m l left in
    let positive : 0 < m = elim_zero m some in
    (m - 1, e, omega (arith, long, same, sum, positive))
  where
    elim_zero : (m : ℕ) → m ≢ 0 → 0 < m
    elim_zero zero some = absurd (some refl)
    elim_zero (suc m) some = omega arith

-- with a unit more
left_more : (select : Option Selection) (count : Option ℕ) (kept kept' : List PacketValue)
    (packet : Option PacketValue) (old new : Option ℕ)
    → IsLeftOf count (length kept) old → old ≢ Some 0 → KeptMore select kept packet kept'
    → LeftMore select packet old new → IsLeftOf count (length kept') new
left_more select count kept kept' None old new is some more less = search rules
left_more select count kept kept' h old new is some more less = search (rules, chosen_left)

-- the last packet that is asked for
last_left : (count : Option ℕ) (k m : ℕ) (new : Option ℕ) → m ≢ 0 → IsLeftOf count k (Some m) → new ≡ Some (m - 1)
    → new ≡ Some 0 → count ≡ Some (suc k)
last_left None k zero new some is e done = absurd cc
last_left h k a new some is e done = search (rules, some_number)

-- the front ends with it
ends_more : (select : Option Selection) (count : Option ℕ) (packets kept : List PacketValue) (front : List ℕ)
    (x y : CaptureExpectation) (buffered : List ℕ) (len : ℕ) (packet : Option PacketValue) (old new : Option ℕ)
    → len ≤ length buffered → Begins buffered x len packet y → GoesOn front packets x
    → Selected (IsChosen select) packets kept
    → IsLeftOf count (length kept) old → old ≢ Some 0 → LeftMore select packet old new → new ≡ Some 0
    → HasBegun y × EndsAtCount select count (front ++ take len buffered)
ends_more select count packets kept front x y buffered len None old new within begins go selected is some less done =
    absurd (some (sym less ∙ done))
ends_more select count packets kept front x y buffered len h old new within begins go selected is some less done =
    search (rules, begun, same_after, packet_of_unit, last_left)

-- none are chosen at first
pub all_left : (count : Option ℕ) → IsLeftOf count 0 count
all_left None = refl
all_left (Some n) = (n, refl, omega arith)

-- fewer are chosen than are asked for
is_below : (count : Option ℕ) (k : ℕ) (left : Option ℕ) → IsLeftOf count k left → left ≢ Some 0 → IsBelow count k
is_below None k left is some = tt
is_below (Some n) k left (zero, e, sum) some = absurd (some e)
is_below (Some n) k left (suc m, e, sum) some = omega (arith, sum)

module _ {W X : Type 0} (task : TaskValue) (contents : W → Option (List ℕ)) where
  -- fewer packets are chosen than are asked for
  pub Reached-fewer : (held : Option (List ℕ)) (input buffered : List ℕ) (at : Progress X) (out : OutputBuffer W)
      → at.left ≢ Some 0 → (so_far : Reached task contents held input buffered at out)
      → HasFewer task.select task.count so_far.front
  Reached-fewer held input buffered at out some so_far = search (rules, is_below)

  -- how many packets were read
  pub Reached-counted : (held : Option (List ℕ)) (input buffered : List ℕ) (at : Progress X) (out : OutputBuffer W)
      → (so_far : Reached task contents held input buffered at out) → AreCounted task so_far.packets (counts_at at)
  Reached-counted held input buffered at out so_far = search rules

  -- nothing is read
  pub Reached-start : (start : Progress X) (out : OutputBuffer W) → IsStart task start
      → Reached task contents (contents_of contents out) [] [] start out
  Reached-start start out is = record {
    packets = [];
    kept = [];
    front = [];
    text = [];
    all_accepted = true;
    place = refl;
    parts = subst (λ (x : CaptureExpectation). GoesOn [] [] x) (sym is.is_reader) GoesOn-start;
    selected = none;
    made =
        subst (λ (x : CaptureExpectation). Made task.select task.form [] [] [] [] true x) (sym is.is_reader)
        (made_start task.select task.form);
    is_verdict = is.is_verdict;
    is_count = let a = is.is_count in omega (arith, a);
    is_skipped = is.is_skipped;
    undecided = record { undecided = []; selected = none; is_count = is.is_undecided };
    is_offset = is.is_offset;
    is_left =
        subst (λ (o : Option ℕ). IsLeftOf task.count 0 o) (sym is.is_left) (all_left task.count);
    at_count = λ none. absurd (is.is_more none);
    written = Appends-none (contents_of contents out);
  }

  -- what waited is written out
  pub Reached-written_out : (held : Option (List ℕ)) (input buffered : List ℕ) (at : Progress X)
      (old new : OutputBuffer W)
      → WritesOut contents old new → Reached task contents held input buffered at old
      → Reached task contents held input buffered at new
  Reached-written_out held input buffered at old new drains so_far = search rules

  -- more bytes are read
  pub Reached-more : (held : Option (List ℕ)) (input buffered chunk : List ℕ) (at : Progress X) (out : OutputBuffer W)
      → Reached task contents held input buffered at out
      → Reached task contents held (input ++ chunk) (buffered ++ chunk) at out
  Reached-more held input buffered chunk at out so_far = search (rules, append_assoc)

  -- a unit is taken
  pub Reached-unit : (held : Option (List ℕ)) (input buffered : List ℕ) (old new : Progress X) (y : CaptureExpectation)
      (from to : OutputBuffer W) (len : ℕ) (packet : Option PacketValue) (own : List ℕ)
      → old.left ≢ Some 0
      → len ≤ length buffered → Begins buffered old.reader len packet y → own ≡ take len buffered
      → TakesUnit task contents own packet (record old { reader = y }) from new to
      → Reached task contents held input buffered old from
      → Reached task contents held input (drop len buffered) new to
  Reached-unit held input buffered old new y from to len packet own some within begins unit_is takes so_far =
      let number : counted (old.count + 1) ≡ counted (packets_before task.form + length so_far.packets + 1) =
      let b = so_far.is_count in omega (arith, b) in
      let more =
      made_more task.select task.form so_far.packets so_far.kept so_far.front so_far.text so_far.all_accepted old.reader
      y buffered len (counted (old.count + 1)) packet own takes.text takes.accepted within begins unit_is number
      so_far.selected so_far.made takes.makes in
      let counts =
      counts_more task.select (packets_before task.form) so_far.packets packet
      (record old { reader = y }) new takes.counts so_far.is_count so_far.is_skipped
      so_far.undecided in
      let less = left_counted task.select packet (record old { reader = y }) new takes.counts in
      let long : length own ≡ len = ap length unit_is ∙ length-take-le len buffered within in
      let front = front_len so_far.front buffered len within in
      record {
        packets = with_packet so_far.packets packet;
        kept = more.kept;
        front = so_far.front ++ take len buffered;
        text = so_far.text ++ takes.text;
        all_accepted = so_far.all_accepted && takes.accepted;
        place = front_after input so_far.front buffered len so_far.place;
        parts =
            subst (λ (x : CaptureExpectation). GoesOn (so_far.front ++ take len buffered)
            (with_packet so_far.packets packet) x)
            (sym takes.same_reader)
            (goes_more so_far.front so_far.packets packet old.reader y buffered len within begins so_far.parts);
        selected = more.selected;
        made =
            subst
            (λ (x : CaptureExpectation).
            Made task.select task.form (with_packet so_far.packets packet) more.kept (so_far.front ++ take len buffered)
            (so_far.text ++ takes.text) (so_far.all_accepted && takes.accepted) x)
            (sym takes.same_reader) more.made;
        is_verdict =
            takes.is_verdict ∙ ap (λ (v : Verdict). verdict_with v takes.accepted) so_far.is_verdict
            ∙ verdict_with-verdict_of so_far.all_accepted takes.accepted;
        is_count = counts.0;
        is_skipped = counts.1;
        undecided = counts.2;
        is_offset = let a = takes.is_offset in let b = so_far.is_offset in omega (arith, a, b, long, front);
        is_left =
            left_more task.select task.count so_far.kept more.kept packet old.left new.left so_far.is_left some
            more.more less;
        at_count = λ none.
            subst
            (λ (x : CaptureExpectation).
            HasBegun x × EndsAtCount task.select task.count (so_far.front ++ take len buffered))
            (sym takes.same_reader)
            (ends_more task.select task.count so_far.packets so_far.kept so_far.front old.reader y buffered len packet
            old.left new.left within begins so_far.parts so_far.selected so_far.is_left some less none);
        written =
            Appends-then held (contents_of contents from) (contents_of contents to) so_far.text takes.text
            so_far.written takes.written;
      }

-- ---- a packet that can't be edited

module _ {W X : Type 0} (mode : ModeValue) (select : Option Selection) (count : Option ℕ) (edit : Option EditValue)
    (contents : W → Option (List ℕ)) (held : Option (List ℕ)) where
  abbrev Copying : (input buffered : List ℕ) → (at : Progress X) → (out : OutputBuffer W) → Type 0
  Copying = Reached (record { select = select; count = count; form = Copy mode edit }) contents held

  packet_stops : (input buffered : List ℕ) (old : Progress X) (from to : OutputBuffer W)
      (x : CaptureExpectation) (len : ℕ) (p : PacketValue) (o : Option EditedValue) (own : List ℕ) (offset : ℕ)
      → Begins buffered old.reader len (Some p) old.reader → IsChosen select p → EditsIf edit p o
      → x ≡ old.reader → own ≡ take len buffered → unit_after mode x p o own ≡ None
      → offset ≡ old.offset → to ≡ from
      → old.left ≢ Some 0
      → Copying input buffered old from → Unedited mode select count edit contents held input offset to
  packet_stops input buffered old from to x len p o own offset begins copied is same unit_is no_copy at same_out some
      so_far =
      record {
        front = so_far.front;
        copy = so_far.text;
        kept = so_far.kept;
        edited = so_far.made.0;
        buffered = buffered;
        expected = old.reader;
        len = len;
        packet = p;
        to = o;
        parts = so_far.made.1;
        begins = begins;
        copied = copied;
        edits = is;
        not_written = unit_there mode x old.reader own (take len buffered) p o None same unit_is no_copy;
        place = so_far.place;
        is_offset = at ∙ so_far.is_offset;
        fewer =
            Reached-fewer (record { select = select; count = count; form = Copy mode edit }) contents held input
            buffered old
            from some so_far;
        written =
            subst (λ (out : OutputBuffer W). Appends held (contents_of contents out) so_far.text) (sym same_out)
            so_far.written;
      }

  unwritten_unit : (input buffered : List ℕ) (old : Progress X) (x y : CaptureExpectation)
      (from to : OutputBuffer W) (len : ℕ) (packet : Option PacketValue) (own : List ℕ) (offset : ℕ)
      (text : Option (List ℕ))
      → Begins buffered old.reader len packet y → x ≡ y → own ≡ take len buffered → text ≡ None
      → Writes mode select edit x own packet text → offset ≡ old.offset → to ≡ from
      → old.left ≢ Some 0
      → Copying input buffered old from → Unedited mode select count edit contents held input offset to
  unwritten_unit input buffered old x y from to len packet own offset text begins at unit_is no_copy writes_unit place
      same_out some so_far = absurd (some_none (other_unit mode x own) no_copy)
  unwritten_unit input buffered old x y from to len packet own offset text begins at unit_is no_copy
      (writes_nothing p not_copied) place same_out some so_far = absurd (some_none [] no_copy)
  unwritten_unit input buffered old x y from to len packet own offset text begins at unit_is no_copy
      (writes_packet p o _ kept edits e) place same_out some so_far =
      let same = same_after buffered old.reader y len p begins in
      packet_stops input buffered old from to x len p o own offset
      (subst (λ (z : CaptureExpectation). Begins buffered old.reader len (Some p) z) same begins) kept edits (at ∙ same)
      unit_is (e ∙ no_copy) place same_out some so_far

no_lines : (select : Option Selection) (options : LinesValue) (x : CaptureExpectation) (number : ℕ) (own : List ℕ)
    (packet : Option PacketValue) (accepted : Bool)
    → Makes select (Lines options) x number own packet accepted None → ⊥
no_lines select options x number own None accepted makes = some_none [] (sym makes.0)
no_lines select options x number own (Some p) accepted makes = some_none makes.0 (sym makes.2)

module _ {W X : Type 0} (select : Option Selection) (count : Option ℕ) (contents : W → Option (List ℕ)) where
  pub Reached-stopped : (form : FormValue) (held : Option (List ℕ)) (input buffered : List ℕ) (old : Progress X)
      (y : CaptureExpectation) (from to : OutputBuffer W) (len : ℕ) (packet : Option PacketValue) (own : List ℕ)
      (offset : ℕ)
      → old.left ≢ Some 0
      → Begins buffered old.reader len packet y → own ≡ take len buffered
      → StopsUnwritten (record { select = select; count = count; form = form }) own packet
      (record old { reader = y }) from offset to
      → Reached (record { select = select; count = count; form = form }) contents held input buffered old from
      → UneditedIn select count form contents held input offset to
  Reached-stopped (Lines options) held input buffered old y from to len packet own offset some begins unit_is stops
      so_far =
      no_lines select options y (counted (old.count + 1)) own packet stops.accepted stops.not_made
  Reached-stopped (Copy mode edit) held input buffered old y from to len packet own offset some begins unit_is stops
      so_far =
      unwritten_unit mode select count edit contents held input buffered old y y from to len packet own offset None
      begins
      refl
      unit_is refl stops.not_made.0 stops.is_offset stops.same_out some so_far

-- a packet that can't be edited stops the run
pub unit_unwritten : {W X : Type 0} (task : TaskValue) (contents : W → Option (List ℕ))
    (whole bytes buffered : List ℕ) (y : CaptureExpectation) (len : ℕ) (packet : Option PacketValue)
    (first old : Progress X) (begin from to : OutputBuffer W) (fault : RunFault)
    → old.left ≢ Some 0
    → bytes ≡ take len buffered → Begins buffered old.reader len packet y
    → OnNotEdited fault (λ offset. StopsUnwritten task bytes packet (record old { reader = y }) from offset to)
    → ((held : Option (List ℕ)) (input : List ℕ) → Reached task contents held input whole first begin
    → Reached task contents held input buffered old from)
    → OnNotEdited fault (λ offset. StopsAfter task contents whole first begin offset to)
unit_unwritten task contents whole bytes buffered y len packet first old begin from to (faults.NotEdited offset)
    some is begins stops reached = λ held input so_far.
    Reached-stopped task.select task.count contents task.form held input buffered old y from to len packet bytes offset
    some begins is stops (reached held input so_far)
unit_unwritten task contents whole bytes buffered y len packet first old begin from to h some is begins stops reached =
    search rules

-- ---- the unit that is taken

-- it is the front of what was buffered
pub unit_is : (bytes : List ℕ) (at len : ℕ) → slice_range bytes at (at + len) ≡ take len (drop at bytes)
unit_is bytes at len = let n : at + len - at ≡ len = omega arith in ap (λ k. take k (drop at bytes)) n

-- what is so of a fault is so of the same one
pub err_is : {A : Type 0} (r : Result A RunFault) (fault : RunFault) (P : RunFault → Type 0)
    → IsErrAnd r (λ other. other ≡ fault) → P fault → IfErr r P
err_is (Ok a) fault P is p = tt
err_is (Err other) fault P is p = subst P (sym is) p

-- the rest of a list, as a range of it
pub rest_is : (xs : List ℕ) (n : ℕ) → take (length xs - n) (drop n xs) ≡ drop n xs
rest_is xs n = take_all (length xs - n) (drop n xs) (let l = length-drop n xs in omega (arith, l))
