-- The lines of a capture.
use Rattle.std.specs.Prelude.{◌≡◌, ℕ, ◌+◌, List, [], ◌∷◌, ◌++◌, length, Bool, true, ◌&&◌, Option, Some, None}
use Rattle.std.specs.List.{sum_by}
use Rattle.ether_stream.specs.declared.selection.Selection.{Selection}
use Rattle.ether_pcap.specs.Capture.{PacketValue, CaptureExpectation, CaptureRefusal, RefusesCapture, required_len, HasPackets}
use Rattle.ether_pcap.specs.CaptureViews.{capture_refusal_view}
use Rattle.ether_pcap.specs.declared.capture.capture_fault.CaptureFault.{CaptureFault}
use Rattle.ether_stream.specs.FrameLines.{AnswersPacket, if_selected, skip_count, totals_line_after}
use Rattle.ether_stream.specs.Packets.{capture_start, counted, GoesOn, HasFewer, HasOpen}
use Rattle.ether_stream.specs.Task.{Lines, LinesValue, packets_before}

-- this is the text for the packets in order, after `before` others, and `all` says whether each is accepted
abbrev pub AreAnswered : (select : Option Selection) → (options : LinesValue) → (before : ℕ) → List PacketValue
    → (text : List ℕ) → (all : Bool) → Type 0
AreAnswered select options before [] text all = (text ≡ []) × (all ≡ true)
AreAnswered select options before (p ∷ packets) text all =
    (first : List ℕ) × (accepted : Bool) × (rest : List ℕ) × (others_accepted : Bool)
    × AnswersPacket select options (counted (before + 1)) p first accepted
    × AreAnswered select options (before + 1) packets rest others_accepted
    × (text ≡ first ++ rest) × (all ≡ (accepted && others_accepted))

-- the line of the totals
abbrev pub totals_of : (options : LinesValue) → List PacketValue → (undecided : Option ℕ) → List ℕ
totals_of options packets undecided =
    totals_line_after options.before options.is_plain (counted (packets_before (Lines options) + length packets))
    (counted (sum_by skip_count packets)) undecided

-- this is the text for the packets of a capture, after those of captures before it
abbrev pub AreListed : (select : Option Selection) → (options : LinesValue) → List PacketValue → (text : List ℕ)
    → (all : Bool) → Type 0
AreListed select options packets text all = AreAnswered select options (packets_before (Lines options)) packets text all

-- these are all packets of the bytes, to their end, and this is the text for them and for the totals
pub record AnswersCapture (select : Option Selection) (options : LinesValue) (packets : List PacketValue)
    (bytes text : List ℕ)
    (all_accepted : Bool) : Type 0 where
  pub lines : List ℕ
  pub has : HasPackets capture_start bytes packets [] None
  pub answered : AreListed select options packets lines all_accepted
  pub undecided : ℕ
  pub has_undecided : HasOpen select packets undecided
  pub is_text : text ≡ lines ++ totals_of options packets (if_selected select undecided)

-- these are the packets of the bytes up to the fault, which is at this place, and this is the text for them
pub record AnswersToFault (select : Option Selection) (count : Option ℕ) (options : LinesValue)
    (packets : List PacketValue)
    (fault : CaptureFault) (bytes text : List ℕ) : Type 0 where
  pub front : List ℕ
  pub rest : List ℕ
  pub all_accepted : Bool
  pub has : HasPackets capture_start bytes packets rest (Some (capture_refusal_view fault.error))
  pub place : bytes ≡ front ++ rest
  pub is_offset : fault.offset ≡ counted (length front)
  pub fewer : HasFewer select count front
  pub answered : AreListed select options packets text all_accepted

-- These are the packets that come first in the bytes, whatever follows, and this is the text for them; what is left is
-- not a whole unit, and more bytes may make it one: this holds of how many it needs at least.
pub record AnswersToUnit (Needs : Option ℕ → Type 0) (select : Option Selection) (count : Option ℕ)
    (options : LinesValue)
    (packets : List PacketValue) (bytes text : List ℕ) : Type 0 where
  pub front : List ℕ
  pub rest : List ℕ
  pub expected : CaptureExpectation
  pub all_accepted : Bool
  pub reason : CaptureRefusal
  pub parts : GoesOn front packets expected
  pub place : bytes ≡ front ++ rest
  pub begun : RefusesCapture rest expected reason
  pub unfinished : Needs (required_len reason)
  pub fewer : HasFewer select count front
  pub answered : AreListed select options packets text all_accepted
