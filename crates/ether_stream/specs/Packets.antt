-- The packets of a capture as far as it was read.
use Rattle.std.specs.Prelude.{◌≡◌, ℕ, suc, ◌+◌, ◌-◌, ◌^◌, min, List, ◌++◌, length, Option, Some, None}
use Rattle.ether_stream.specs.declared.selection.Selection.{Selection}
use Rattle.ether_pcap.specs.Capture.{PacketValue, CaptureExpectation, Beginning, CaptureRefusal, Begins, HasPackets}
use Rattle.ether_pcap.specs.Copies.{Selected}
use Rattle.ether_stream.specs.Task.{IsChosen, IsBelow, IsOpen}

-- a count that 64 bits can't hold is the greatest that they can
abbrev pub counted : ℕ → ℕ
counted n = min n (2 ^ 64 - 1)

-- what is expected at the beginning of a capture, where a section may describe at most 65536 interfaces
abbrev pub capture_start : CaptureExpectation
capture_start = Beginning 65536

-- A capture that begins with these bytes, whole units, has these packets first, and then those that follow where this
-- is expected.
abbrev pub GoesOn : (front : List ℕ) → List PacketValue → CaptureExpectation → Type 0
GoesOn front packets x =
    (later : List ℕ) (others : List PacketValue) (rest : List ℕ) (fault : Option CaptureRefusal)
    → HasPackets x later others rest fault → HasPackets capture_start (front ++ later) (packets ++ others) rest fault

-- after `k` packets, `left` of the `count` that are asked for are left
abbrev pub IsLeftOf : (count : Option ℕ) → ℕ → (left : Option ℕ) → Type 0
IsLeftOf None k left = left ≡ None
IsLeftOf (Some n) k left = (m : ℕ) × (left ≡ Some m) × (m + k ≡ n)

-- `count` packets are undecided: their captured bytes don't decide whether they are selected
pub record HasOpen (select : Option Selection) (packets : List PacketValue) (count : ℕ) : Type 0 where
  pub undecided : List PacketValue
  pub selected : Selected (IsOpen select) packets undecided
  pub is_count : count ≡ counted (length undecided)

-- Fewer packets of these units are chosen than are asked for.
pub record HasFewer (select : Option Selection) (count : Option ℕ) (front : List ℕ) : Type 0 where
  pub packets : List PacketValue
  pub kept : List PacketValue
  pub expected : CaptureExpectation
  pub parts : GoesOn front packets expected
  pub selected : Selected (IsChosen select) packets kept
  pub below : IsBelow count (length kept)

-- The last of these units is the packet with which the requested number of packets is reached.
pub record EndsAtCount (select : Option Selection) (count : Option ℕ) (front : List ℕ) : Type 0 where
  pub before : List ℕ
  pub unit : List ℕ
  pub packets : List PacketValue
  pub kept : List PacketValue
  pub expected : CaptureExpectation
  pub last : PacketValue
  pub place : front ≡ before ++ unit
  pub parts : GoesOn before packets expected
  pub begins : Begins unit expected (length unit) (Some last) expected
  pub chosen : IsChosen select last
  pub selected : Selected (IsChosen select) packets kept
  pub is_count : count ≡ Some (suc (length kept))
