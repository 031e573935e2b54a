-- How many packets of a capture were read.
use Rattle.std.specs.Prelude.{◌≡◌, ℕ, ◌+◌, List, length, Option, Result, Err, ⊤}
use Rattle.std.specs.List.{sum_by}
use Rattle.ether_pcap.specs.Capture.{PacketValue}
use Rattle.ether_pcap.specs.Copies.{Selected}
use Rattle.ether_text.specs.declared.verdict.Verdict.{Verdict}
use Rattle.ether_stream.specs.FrameLines.{skip_count}
use Rattle.ether_stream.specs.Packets.{counted, HasOpen, IsLeftOf}
use Rattle.ether_stream.specs.Run.{HasRunOver}
use Rattle.ether_stream.specs.Task.{TaskValue, IsChosen, packets_before}
use Rattle.ether_stream.specs.declared.counts.PacketCounts.{PacketCounts}
use Rattle.ether_stream.specs.declared.outcome.FileEnd.{FileEnd}
use Rattle.ether_stream.specs.declared.outcome.FileEnd.TheVariants as ends
use Rattle.ether_stream.specs.declared.outcome.RunFault.{RunFault}
use Rattle.ether_stream.specs.declared.outcome.RunFault.TheVariants.{NotEdited, Output}

-- these packets were read
pub record AreCounted (task : TaskValue) (packets : List PacketValue) (counts : PacketCounts) : Type 0 where
  pub kept : List PacketValue
  pub selected : Selected (IsChosen task.select) packets kept
  pub is_number : counts.number ≡ counted (packets_before task.form + length packets)
  pub is_skipped : counts.skipped ≡ counted (sum_by skip_count packets)
  pub undecided : HasOpen task.select packets counts.undecided
  pub is_left : IsLeftOf task.count (length kept) counts.left

-- if a run ended without a fault of its writer, and without a packet that can't be edited
abbrev pub IfRead : Result Verdict RunFault → Type 0 → Type 0
IfRead (Err Output) P = ⊤
IfRead (Err (NotEdited offset)) P = ⊤
IfRead outcome P = P

-- .. or a file can't be opened
abbrev pub IfFileRead : FileEnd → Type 0 → Type 0
IfFileRead (ends.NotOpened fault) P = P
IfFileRead (ends.Read end) P = IfRead end P

-- what a run has read and written, and how many packets it found
pub record HasCounted (task : TaskValue) (before after held holds : Option (List ℕ)) (outcome : Result Verdict RunFault)
    (counts : PacketCounts)
    : Type 0 where
  pub packets : List PacketValue
  pub run : HasRunOver task packets before after held holds outcome
  pub counted : IfRead outcome (AreCounted task packets counts)
