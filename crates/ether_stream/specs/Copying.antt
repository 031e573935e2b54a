-- The copy of a capture.
use Rattle.std.specs.Prelude.{◌≡◌, ◌≢◌, ◌⊎◌, ℕ, ◌≤◌, List, [], ◌++◌, length, Bool, true, Option, Some, None, unwrap_or, All}
use Rattle.ether_stream.specs.declared.selection.Selection.{Selection}
use Rattle.std.specs.Option.{option_map}
use Rattle.ether_pcap.specs.Capture.{PacketValue, IsWithinSnap, CaptureExpectation, CaptureRefusal, RefusesCapture, required_len, HasPackets}
use Rattle.ether_pcap.specs.Copies.{CopyFault, NotEdited, Copies, Selected, HasPacketsTo, AreEdited}
use Rattle.ether_pcap.specs.Editing.{EditedValue}
use Rattle.ether_pcap.specs.CopiedUnits.{ModeValue, Exact, Changed}
use Rattle.ether_content.specs.Editing.{EditValue, Edits, growth}
use Rattle.ether_stream.specs.Packets.{capture_start, counted, HasFewer}
use Rattle.ether_stream.specs.Task.{IsChosen}

-- what a packet is edited to, if it is
abbrev pub EditsIf : (edit : Option EditValue) → PacketValue → Option EditedValue → Type 0
EditsIf None p o = o ≡ None
EditsIf (Some e) p o = Edits e p o

-- by how many bytes an edit lets a packet grow, if there is one
abbrev pub growth_if : (asked : Option EditValue) → ℕ
growth_if asked = unwrap_or (option_map growth asked) 0

-- The copy of a capture up to what is left of it. It is a capture of its own, which has exactly the packets that are
-- chosen, each edited, unless there was a fault before anything was copied. If its snap lengths are raised by what the
-- edit can add, and no chosen packet was longer than they allowed, then no packet of the copy is. An exact copy of all
-- packets, none of them edited, is the capture itself, up to what is left.
pub record IsCopy (mode : ModeValue) (select : Option Selection) (asked : Option EditValue)
    (bytes copy rest : List ℕ) (fault : Option CopyFault) : Type 0 where
  pub packets : List PacketValue
  pub kept : List PacketValue
  pub edited : List PacketValue
  pub has : HasPacketsTo capture_start bytes packets rest fault
  pub selected : Selected (IsChosen select) packets kept
  pub copies : Copies mode (IsChosen select) (EditsIf asked) capture_start bytes copy kept edited rest fault
  pub are_edited : AreEdited mode (EditsIf asked) kept edited
  pub is_read : (fault ≡ None) ⊎ (copy ≢ []) → HasPackets capture_start copy edited [] None
  pub within : (raise : ℕ) → mode ≡ Changed raise → growth_if asked ≤ raise → All IsWithinSnap kept
      → All IsWithinSnap edited
  pub nothing : copy ≡ [] → rest ≡ bytes
  pub all : mode ≡ Exact → select ≡ None → asked ≡ None → copy ++ rest ≡ bytes

-- this is the copy of the bytes to their end; no packet is refused
pub record CopiesCapture (mode : ModeValue) (select : Option Selection) (asked : Option EditValue) (bytes copy : List ℕ)
    (all_accepted : Bool) : Type 0 where
  pub is_copy : IsCopy mode select asked bytes copy [] None
  pub accepted : all_accepted ≡ true

-- this is the copy of the bytes up to a fault, which is at this place
pub record CopiesToFault (mode : ModeValue) (select : Option Selection) (count : Option ℕ) (asked : Option EditValue)
    (reason : CopyFault)
    (offset : ℕ) (bytes copy : List ℕ) : Type 0 where
  pub front : List ℕ
  pub rest : List ℕ
  pub is_copy : IsCopy mode select asked bytes copy rest (Some reason)
  pub place : bytes ≡ front ++ rest
  pub is_offset : offset ≡ counted (length front)
  pub fewer : HasFewer select count front

-- .. up to a packet that is to be edited and can't be
abbrev pub CopiesToPacket : ModeValue → (select : Option Selection) → (count : Option ℕ) → (asked : Option EditValue)
    → (offset : ℕ) → (bytes copy : List ℕ) → Type 0
CopiesToPacket mode select count asked offset bytes copy =
    (p : PacketValue) × CopiesToFault mode select count asked (NotEdited p) offset bytes copy

-- A copy of a capture that begins with these bytes, whole units, begins with these, and has these packets first, which
-- are edited to those; then follows the copy of what is left, where this is expected.
abbrev pub CopiesOn : ModeValue → (select : Option Selection) → (asked : Option EditValue) → (front copy : List ℕ)
    → (kept edited : List PacketValue) → CaptureExpectation → Type 0
CopiesOn mode select asked front copy kept edited x =
    (later more : List ℕ) (others changed : List PacketValue) (rest : List ℕ) (fault : Option CopyFault)
    → Copies mode (IsChosen select) (EditsIf asked) x later more others changed rest fault
    → Copies mode (IsChosen select) (EditsIf asked) capture_start (front ++ later) (copy ++ more) (kept ++ others)
    (edited ++ changed) rest fault

-- This is the copy of what comes first in the bytes, whatever follows, and a capture of its own; what is left is not a
-- whole unit, and more bytes may make it one: this holds of how many it needs at least.
pub record CopiesToUnit (Needs : Option ℕ → Type 0) (mode : ModeValue) (select : Option Selection) (count : Option ℕ)
    (asked : Option EditValue)
    (bytes copy : List ℕ) : Type 0 where
  pub kept : List PacketValue
  pub edited : List PacketValue
  pub front : List ℕ
  pub rest : List ℕ
  pub expected : CaptureExpectation
  pub reason : CaptureRefusal
  pub parts : CopiesOn mode select asked front copy kept edited expected
  pub place : bytes ≡ front ++ rest
  pub begun : RefusesCapture rest expected reason
  pub unfinished : Needs (required_len reason)
  pub fewer : HasFewer select count front
  pub is_read : copy ≢ [] → HasPackets capture_start copy edited [] None
