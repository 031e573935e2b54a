-- How far a run has come.
use Rattle.std.specs.Prelude.{◌≡◌, ◌≢◌, ◌⊎◌, ℕ, ◌+◌, ◌-◌, List, [], ◌++◌, length, take, Bool, true, Option, Some, None, IfSome, IfNone, IsTrue, ◌↔◌, ⊤}
use Rattle.std.specs.List.{sum_by}
use Rattle.std.specs.Io.KnownBytes.{Appends}
use Rattle.ether_stream.specs.declared.selection.Selection.{Selection}
use Rattle.ether_pcap.specs.Capture.{PacketValue, CaptureExpectation, HasBegun, Begins, RefusesCapture}
use Rattle.ether_pcap.specs.CaptureViews.{capture_refusal_view}
use Rattle.ether_pcap.specs.Copies.{Selected}
use Rattle.ether_pcap.specs.Editing.{EditedValue, edited_unit}
use Rattle.ether_pcap.specs.CopiedUnits.{ModeValue, other_unit, unit_after}
use Rattle.ether_pcap.specs.declared.capture.capture_error.CaptureError.{CaptureError}
use Rattle.ether_content.specs.Editing.{EditValue}
use Rattle.ether_output.specs.OutputBuffer.{contents_of, Takes}
use Rattle.ether_text.specs.Verdict.{verdict_of, verdict_with}
use Rattle.ether_output.specs.declared.output_buffer.OutputBuffer.{OutputBuffer}
use Rattle.ether_text.specs.declared.verdict.Verdict.TheVariants.{AllAccepted}
use Rattle.ether_stream.specs.Answering.{AreListed}
use Rattle.ether_stream.specs.Copying.{EditsIf, CopiesOn}
use Rattle.ether_stream.specs.declared.counts.PacketCounts.{PacketCounts}
use Rattle.ether_stream.specs.FrameLines.{AnswersPacket, skip_count, totals_line_after}
use Rattle.ether_stream.specs.Packets.{capture_start, counted, GoesOn, HasFewer, HasOpen, EndsAtCount, IsLeftOf}
use Rattle.ether_stream.specs.Task.{Copy, FormValue, IsChosen, IsOpen, Lines, LinesValue, TaskValue, packets_before}
use Rattle.ether_stream.specs.declared.outcome.RunFault.{RunFault}
use Rattle.ether_stream.specs.declared.outcome.RunFault.TheVariants as faults
use Rattle.ether_stream.specs.declared.progress.Progress.{Progress}

-- ---- what is made of the front of a capture

-- this is the text for its packets, or its copy, after which this is expected
abbrev pub Made : (select : Option Selection) → FormValue → (packets kept : List PacketValue) → (front text : List ℕ)
    → (all : Bool)
    → CaptureExpectation → Type 0
Made select (Lines options) packets kept front text all x = AreListed select options packets text all
Made select (Copy mode edit) packets kept front text all x =
    (edited : List PacketValue) × CopiesOn mode select edit front text kept edited x × (all ≡ true)

-- The units of the input that precede the buffered bytes are taken.
pub record Reached {W X : Type 0} (task : TaskValue) (contents : W → Option (List ℕ)) (held : Option (List ℕ))
    (input buffered : List ℕ)
    (at : Progress X) (out : OutputBuffer W) : Type 0 where
  pub packets : List PacketValue
  pub kept : List PacketValue
  pub front : List ℕ
  pub text : List ℕ
  pub all_accepted : Bool
  pub place : input ≡ front ++ buffered
  pub parts : GoesOn front packets at.reader
  pub selected : Selected (IsChosen task.select) packets kept
  pub made : Made task.select task.form packets kept front text all_accepted at.reader
  pub is_verdict : at.verdict ≡ verdict_of all_accepted
  pub is_count : at.count ≡ counted (packets_before task.form + length packets)
  pub is_skipped : at.skipped ≡ counted (sum_by skip_count packets)
  pub undecided : HasOpen task.select packets at.undecided
  pub is_offset : at.offset ≡ counted (length front)
  pub is_left : IsLeftOf task.count (length kept) at.left
  pub at_count : at.left ≡ Some 0 → HasBegun at.reader × EndsAtCount task.select task.count front
  pub written : Appends held (contents_of contents out) text

-- nothing is read
pub record IsStart {X : Type 0} (task : TaskValue) (at : Progress X) : Type 0 where
  pub is_reader : at.reader ≡ capture_start
  pub is_count : at.count ≡ counted (packets_before task.form)
  pub is_skipped : at.skipped ≡ 0
  pub is_undecided : at.undecided ≡ 0
  pub is_offset : at.offset ≡ 0
  pub is_verdict : at.verdict ≡ AllAccepted
  pub is_left : at.left ≡ task.count
  pub is_more : at.left ≢ Some 0

-- how many packets were read
abbrev pub counts_at : {X : Type 0} → Progress X → PacketCounts
counts_at at = record { number = at.count; skipped = at.skipped; undecided = at.undecided; left = at.left }

-- ---- one unit

-- the unit that was read last, with this packet if it has one
abbrev pub IsUnitOf : CaptureExpectation → (unit : List ℕ) → Option PacketValue → Type 0
IsUnitOf x unit None = (before : CaptureExpectation) × Begins unit before (length unit) None x
IsUnitOf x unit (Some p) = Begins unit x (length unit) (Some p) x

-- the lines of a packet of this number, if there is a packet
abbrev pub Answers : (select : Option Selection) → (options : LinesValue) → (number : ℕ) → Option PacketValue
    → (accepted : Bool) → Option (List ℕ)
    → Type 0
Answers select options number None accepted text = (text ≡ Some []) × (accepted ≡ true)
Answers select options number (Some p) accepted text =
    (lines : List ℕ) × AnswersPacket select options number p lines accepted × (text ≡ Some lines)

-- The copy of a unit, by its packet if it has one: empty if that is not chosen, `None` if it is to be edited and
-- can't be.
pub data Writes (mode : ModeValue) (select : Option Selection) (edit : Option EditValue) (x : CaptureExpectation)
    (unit : List ℕ)
    : Option PacketValue → Option (List ℕ) → Type 0 where
  writes_unit : Writes mode select edit x unit None (Some (other_unit mode x unit))
  writes_nothing : (p : PacketValue) → ¬ (IsChosen select p) → Writes mode select edit x unit (Some p) (Some [])
  writes_packet : (p : PacketValue) (o : Option EditedValue) (text : Option (List ℕ)) → IsChosen select p
      → EditsIf edit p o
      → unit_after mode x p o unit ≡ text → Writes mode select edit x unit (Some p) text

-- the text that is made of a unit, or none
abbrev pub Makes : (select : Option Selection) → FormValue → CaptureExpectation → (number : ℕ) → (unit : List ℕ)
    → Option PacketValue
    → (accepted : Bool) → Option (List ℕ) → Type 0
Makes select (Lines options) x number unit packet accepted text = Answers select options number packet accepted text
Makes select (Copy mode edit) x number unit packet accepted text =
    Writes mode select edit x unit packet text × (accepted ≡ true)

-- what is written for a unit that is not a packet
abbrev pub other_text : FormValue → CaptureExpectation → (unit : List ℕ) → List ℕ
other_text (Lines options) x unit = []
other_text (Copy mode edit) x unit = other_unit mode x unit

-- whether the packet of a unit is chosen, if it has one
abbrev pub IsChoice : (select : Option Selection) → Option PacketValue → Bool → Type 0
IsChoice select None is_chosen = ⊤
IsChoice select (Some p) is_chosen = IsTrue is_chosen ↔ IsChosen select p

-- the number of packets that are left goes down by one if this one is chosen
abbrev pub LeavesLess : (select : Option Selection) → PacketValue → (old new : Option ℕ) → Type 0
LeavesLess select p None new = new ≡ None
LeavesLess select p (Some m) new = (IsChosen select p × (new ≡ Some (m - 1))) ⊎ (¬ (IsChosen select p) × (new ≡ Some m))

-- .. and that of undecided packets goes up by one if this one is undecided
abbrev pub CountsOpen : (select : Option Selection) → PacketValue → (old new : ℕ) → Type 0
CountsOpen select p old new = (IsOpen select p × (new ≡ counted (old + 1))) ⊎ (¬ (IsOpen select p) × (new ≡ old))

-- a unit is counted, if it has a packet
abbrev pub Counts : {X : Type 0} → (select : Option Selection) → Option PacketValue → (old new : Progress X) → Type 0
Counts select None old new =
    (new.count ≡ old.count) × (new.skipped ≡ old.skipped) × (new.undecided ≡ old.undecided) × (new.left ≡ old.left)
Counts select (Some p) old new =
    (new.count ≡ counted (old.count + 1)) × (new.skipped ≡ counted (old.skipped + skip_count p))
    × CountsOpen select p old.undecided new.undecided × LeavesLess select p old.left new.left

-- a unit is taken, and this is written for it
pub record TakesUnit {W X : Type 0} (task : TaskValue) (contents : W → Option (List ℕ)) (unit : List ℕ)
    (packet : Option PacketValue)
    (old : Progress X) (from : OutputBuffer W) (new : Progress X) (to : OutputBuffer W) : Type 0 where
  pub text : List ℕ
  pub accepted : Bool
  pub makes : Makes task.select task.form old.reader (counted (old.count + 1)) unit packet accepted (Some text)
  pub written : Appends (contents_of contents from) (contents_of contents to) text
  pub counts : Counts task.select packet old new
  pub is_verdict : new.verdict ≡ verdict_with old.verdict accepted
  pub is_offset : new.offset ≡ counted (old.offset + length unit)
  pub same_reader : new.reader ≡ old.reader

-- .. or its packet can't be edited, and nothing is written
pub record StopsUnwritten {W X : Type 0} (task : TaskValue) (unit : List ℕ) (packet : Option PacketValue)
    (old : Progress X) (from : OutputBuffer W)
    (offset : ℕ) (to : OutputBuffer W) : Type 0 where
  pub accepted : Bool
  pub not_made : Makes task.select task.form old.reader (counted (old.count + 1)) unit packet accepted None
  pub is_offset : offset ≡ old.offset
  pub same_out : to ≡ from

-- this is appended for a unit
pub record MakesText {W : Type 0} (select : Option Selection) (form : FormValue) (x : CaptureExpectation) (number : ℕ)
    (unit : List ℕ)
    (packet : Option PacketValue) (contents : W → Option (List ℕ)) (can_fail : Type 0) (from : OutputBuffer W)
    (accepted : Bool)
    (to : OutputBuffer W) : Type 0 where
  pub text : List ℕ
  pub makes : Makes select form x number unit packet accepted (Some text)
  pub taken : Takes contents can_fail from text to

-- the unit of a packet is appended, edited if there is an edit
pub record WritesPacket {W : Type 0} (mode : ModeValue) (edit : Option EditValue) (x : CaptureExpectation)
    (unit : List ℕ) (p : PacketValue)
    (contents : W → Option (List ℕ)) (can_fail : Type 0) (from to : OutputBuffer W) : Type 0 where
  pub edited : Option EditedValue
  pub edits : EditsIf edit p edited
  pub copy : List ℕ
  pub is_copy : unit_after mode x p edited unit ≡ Some copy
  pub taken : Takes contents can_fail from copy to

-- .. or can't be edited
abbrev pub IsUneditable : ModeValue → (edit : Option EditValue) → CaptureExpectation → (unit : List ℕ) → PacketValue
    → Type 0
IsUneditable mode edit x unit p = (o : Option EditedValue) × EditsIf edit p o × (unit_after mode x p o unit ≡ None)

-- the unit of a packet is appended as edited
abbrev pub AppendsEdited : {W : Type 0} → CaptureExpectation → (unit : List ℕ) → EditedValue
    → (contents : W → Option (List ℕ)) → (can_fail : Type 0)
    → (from to : OutputBuffer W) → Type 0
AppendsEdited x unit e contents can_fail from to =
    (p : PacketValue) → Begins unit x (length unit) (Some p) x
    → (copy : List ℕ) × (edited_unit x (length p.packet) e unit ≡ Some copy) × Takes contents can_fail from copy to

-- .. or can't be
abbrev pub AppendsNone : CaptureExpectation → (unit : List ℕ) → EditedValue → Type 0
AppendsNone x unit e =
    (p : PacketValue) → Begins unit x (length unit) (Some p) x → edited_unit x (length p.packet) e unit ≡ None

-- ---- the units that are buffered

-- of a packet that can't be edited, by its place
abbrev pub OnNotEdited : RunFault → (ℕ → Type 0) → Type 0
OnNotEdited (faults.NotEdited offset) P = P offset
OnNotEdited _ P = ⊤

-- of a fault of the writer
abbrev pub OnOutput : RunFault → Type 0 → Type 0
OnOutput faults.Output P = P
OnOutput _ P = ⊤

-- units are taken up to a packet that can't be edited, or to a fault of the writer
abbrev pub IsTakingFault : RunFault → Type 0
IsTakingFault (faults.NotEdited offset) = ⊤
IsTakingFault faults.Output = ⊤
IsTakingFault _ = ⊥

-- The units of the input before a packet at this offset are taken; the packet is to be edited, and can't be.
pub record Unedited {W : Type 0} (mode : ModeValue) (select : Option Selection) (count : Option ℕ)
    (edit : Option EditValue) (contents : W → Option (List ℕ))
    (held : Option (List ℕ)) (input : List ℕ) (offset : ℕ) (out : OutputBuffer W) : Type 0 where
  pub front : List ℕ
  pub copy : List ℕ
  pub kept : List PacketValue
  pub edited : List PacketValue
  pub buffered : List ℕ
  pub expected : CaptureExpectation
  pub len : ℕ
  pub packet : PacketValue
  pub to : Option EditedValue
  pub parts : CopiesOn mode select edit front copy kept edited expected
  pub begins : Begins buffered expected len (Some packet) expected
  pub copied : IsChosen select packet
  pub edits : EditsIf edit packet to
  pub not_written : unit_after mode expected packet to (take len buffered) ≡ None
  pub place : input ≡ front ++ buffered
  pub is_offset : offset ≡ counted (length front)
  pub fewer : HasFewer select count front
  pub written : Appends held (contents_of contents out) copy

-- .. if a copy is made
abbrev pub UneditedIn : {W : Type 0} → (select : Option Selection) → (count : Option ℕ) → FormValue
    → (contents : W → Option (List ℕ)) → (held : Option (List ℕ))
    → (input : List ℕ) → (offset : ℕ) → (out : OutputBuffer W) → Type 0
UneditedIn select count (Lines options) contents held input offset out = ⊥
UneditedIn select count (Copy mode edit) contents held input offset out =
    Unedited mode select count edit contents held input offset out

-- .. after these bytes were buffered
abbrev pub StopsAfter : {W X : Type 0} → (task : TaskValue) → (contents : W → Option (List ℕ)) → (buffered : List ℕ)
    → (old : Progress X)
    → (from : OutputBuffer W) → (offset : ℕ) → (to : OutputBuffer W) → Type 0
StopsAfter task contents buffered old from offset to =
    (held : Option (List ℕ)) (input : List ℕ) → Reached task contents held input buffered old from
    → UneditedIn task.select task.count task.form contents held input offset to

-- The units at the front of the buffered bytes are taken, and what is left is refused; or the requested number of
-- packets is reached.
pub record TakesUnits {W X : Type 0} (task : TaskValue) (contents : W → Option (List ℕ)) (buffered : List ℕ)
    (old : Progress X)
    (from : OutputBuffer W) (left : List ℕ) (error : Option CaptureError) (new : Progress X)
    (to : OutputBuffer W) : Type 0 where
  pub reached : (held : Option (List ℕ)) (input : List ℕ) → Reached task contents held input buffered old from
      → Reached task contents held input left new to
  pub refused : IfSome error (λ e. RefusesCapture left new.reader (capture_refusal_view e) × (new.left ≢ Some 0))
  pub done : IfNone error (new.left ≡ Some 0)

-- ---- the end

-- what is written after all units
abbrev pub last_lines : FormValue → (count skipped : ℕ) → (undecided : Option ℕ) → List ℕ
last_lines (Lines options) count skipped undecided =
    totals_line_after options.before options.is_plain count skipped undecided
last_lines (Copy mode edit) count skipped undecided = []
