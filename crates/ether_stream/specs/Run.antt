-- What a run has read and written.
use Rattle.std.specs.Prelude.{◌≡◌, ◌≢◌, ◌⊎◌, ℕ, ◌<◌, List, ◌++◌, Bool, Option, Some, None, Result, Ok, Err, ⊤}
use Rattle.std.specs.Io.KnownBytes.{Appends}
use Rattle.ether_stream.specs.declared.selection.Selection.{Selection}
use Rattle.ether_pcap.specs.Capture.{PacketValue}
use Rattle.ether_pcap.specs.CaptureViews.{capture_refusal_view}
use Rattle.ether_pcap.specs.Copies.{Refused}
use Rattle.ether_pcap.specs.declared.capture.capture_fault.CaptureFault.{CaptureFault}
use Rattle.ether_text.specs.Verdict.{verdict_of}
use Rattle.ether_text.specs.Run.{AnswersAll, StopsIn, BreaksOffAfter, Stream, OnStream, IfNoStream}
use Rattle.ether_text.specs.Run as streams
use Rattle.ether_text.specs.declared.verdict.Verdict.{Verdict}
use Rattle.ether_stream.specs.Answering.{AnswersCapture, AnswersToFault, AnswersToUnit}
use Rattle.ether_stream.specs.Copying.{CopiesCapture, CopiesToFault, CopiesToPacket, CopiesToUnit}
use Rattle.ether_stream.specs.Packets.{HasFewer, EndsAtCount}
use Rattle.ether_stream.specs.Task.{TaskValue, FormValue, Lines, Copy}
use Rattle.ether_stream.specs.declared.outcome.RunFault.{RunFault}
use Rattle.ether_stream.specs.declared.outcome.RunFault.TheVariants.{Capture, NotEdited, Input, Output, Memory}

-- this is made of a whole capture with these packets, and all says that each is accepted
abbrev pub Completes : (select : Option Selection) → FormValue → List PacketValue → (bytes text : List ℕ) → (all : Bool)
    → Type 0
Completes select (Lines options) packets bytes text all = AnswersCapture select options packets bytes text all
Completes select (Copy mode edit) packets bytes text all = CopiesCapture mode select edit bytes text all

-- .. and fewer of its packets are chosen than are asked for
abbrev pub CompletesAll : (task : TaskValue) → List PacketValue → (bytes text : List ℕ) → (all : Bool) → Type 0
CompletesAll task packets bytes text all =
    HasFewer task.select task.count bytes × Completes task.select task.form packets bytes text all

-- This is made of the units of a capture up to the packet with which the requested number is reached, as if the
-- capture ended there.
pub record ReachesCount (task : TaskValue) (packets : List PacketValue) (verdict : Verdict)
    (bytes text : List ℕ) : Type 0 where
  pub front : List ℕ
  pub rest : List ℕ
  pub all_accepted : Bool
  pub place : bytes ≡ front ++ rest
  pub ends : EndsAtCount task.select task.count front
  pub completes : Completes task.select task.form packets front text all_accepted
  pub is_verdict : verdict ≡ verdict_of all_accepted

-- this is made of a capture up to a fault
abbrev pub StopsAtFault : (select : Option Selection) → (count : Option ℕ) → FormValue → List PacketValue → CaptureFault
    → (bytes text : List ℕ)
    → Type 0
StopsAtFault select count (Lines options) packets fault bytes text =
    AnswersToFault select count options packets fault bytes text
StopsAtFault select count (Copy mode edit) packets fault bytes text =
    CopiesToFault mode select count edit (Refused (capture_refusal_view fault.error)) fault.offset bytes text

-- .. up to a packet at this place that is to be edited, and can't be
abbrev pub StopsAtPacket : (select : Option Selection) → (count : Option ℕ) → FormValue → (offset : ℕ)
    → (bytes text : List ℕ) → Type 0
StopsAtPacket select count (Lines options) offset bytes text = ⊥
StopsAtPacket select count (Copy mode edit) offset bytes text = CopiesToPacket mode select count edit offset bytes text

-- .. up to bytes that are not a whole unit; this holds of how many it needs at least
abbrev pub EndsInUnit : (Needs : Option ℕ → Type 0) → (select : Option Selection) → (count : Option ℕ) → FormValue
    → List PacketValue
    → (bytes text : List ℕ) → Type 0
EndsInUnit Needs select count (Lines options) packets bytes text =
    AnswersToUnit Needs select count options packets bytes text
EndsInUnit Needs select count (Copy mode edit) packets bytes text = CopiesToUnit Needs mode select count edit bytes text

-- this many bytes are needed, and more than there was memory for at first
abbrev pub NeedsMemory : Option ℕ → Type 0
NeedsMemory None = ⊥
NeedsMemory (Some n) = 65536 < n

-- What a run that found these packets has read and written, by its outcome. After a fault of the writer nothing is
-- claimed.
abbrev pub HasRunOver : (task : TaskValue) → List PacketValue → (before after held holds : Option (List ℕ))
    → Result Verdict RunFault → Type 0
HasRunOver task packets before after held holds (Ok verdict) =
    AnswersAll (CompletesAll task packets) before after held holds verdict
    ⊎ StopsIn (ReachesCount task packets verdict) before after held holds
HasRunOver task packets before after held holds (Err (Capture fault)) =
    StopsIn (StopsAtFault task.select task.count task.form packets fault) before after held holds
HasRunOver task packets before after held holds (Err (NotEdited offset)) =
    StopsIn (StopsAtPacket task.select task.count task.form offset) before after held holds
HasRunOver task packets before after held holds (Err Input) =
    BreaksOffAfter (EndsInUnit (λ n. n ≢ None) task.select task.count task.form packets) before after held holds
HasRunOver task packets before after held holds (Err Output) = ⊤
HasRunOver task packets before after held holds (Err Memory) =
    BreaksOffAfter (EndsInUnit NeedsMemory task.select task.count task.form packets) before after held holds

-- .. of any packets
abbrev pub HasRun : (task : TaskValue) → (before after held holds : Option (List ℕ)) → Result Verdict RunFault → Type 0
HasRun task before after held holds outcome =
    (packets : List PacketValue) × HasRunOver task packets before after held holds outcome

-- memory was refused before anything was read
abbrev pub HasNoMemory : (before after held holds : Option (List ℕ)) → Result Verdict RunFault → Type 0
HasNoMemory before after held holds outcome = (outcome ≡ Err Memory) × (after ≡ before) × (holds ≡ held)

-- What a run over a slice of these bytes that found these packets has written, by its outcome. There is no fault of the
-- reader, and one of the writer only if that can fail.
abbrev pub AnswersSliceOver : (task : TaskValue) → List PacketValue → (can_fail : Type 0) → (bytes : List ℕ)
    → (held holds : Option (List ℕ))
    → Result Verdict RunFault → Type 0
AnswersSliceOver task packets can_fail bytes held holds (Ok verdict) =
    ((text : List ℕ) × (all : Bool) × CompletesAll task packets bytes text all × (verdict ≡ verdict_of all)
    × Appends held holds text)
    ⊎ ((text : List ℕ) × ReachesCount task packets verdict bytes text × Appends held holds text)
AnswersSliceOver task packets can_fail bytes held holds (Err (Capture fault)) =
    (text : List ℕ) × StopsAtFault task.select task.count task.form packets fault bytes text × Appends held holds text
AnswersSliceOver task packets can_fail bytes held holds (Err (NotEdited offset)) =
    (text : List ℕ) × StopsAtPacket task.select task.count task.form offset bytes text × Appends held holds text
AnswersSliceOver task packets can_fail bytes held holds (Err Input) = ⊥
AnswersSliceOver task packets can_fail bytes held holds (Err Output) = can_fail
AnswersSliceOver task packets can_fail bytes held holds (Err Memory) =
    (taken left text : List ℕ) × (bytes ≡ taken ++ left)
    × EndsInUnit NeedsMemory task.select task.count task.form packets taken text × Appends held holds text

-- .. of any packets
abbrev pub AnswersSlice : (task : TaskValue) → (can_fail : Type 0) → (bytes : List ℕ) → (held holds : Option (List ℕ))
    → Result Verdict RunFault → Type 0
AnswersSlice task can_fail bytes held holds outcome =
    (packets : List PacketValue) × AnswersSliceOver task packets can_fail bytes held holds outcome

-- ---- what is said of each outcome

-- the stream that has failed
abbrev pub stream_of : RunFault → Option Stream
stream_of (Capture fault) = None
stream_of (NotEdited offset) = None
stream_of Input = Some streams.Input
stream_of Output = Some streams.Output
stream_of Memory = None

-- of a fault of the reader
abbrev pub OnInput : RunFault → Type 0 → Type 0
OnInput fault P = OnStream (stream_of fault) P ⊤

-- of a fault of the reader, and of one of the writer
abbrev pub OnStreamFault : RunFault → Type 0 → Type 0 → Type 0
OnStreamFault fault P Q = OnStream (stream_of fault) P Q

-- if no stream has failed
abbrev pub IfSettled : Result Verdict RunFault → Type 0 → Type 0
IfSettled (Ok verdict) P = P
IfSettled (Err fault) P = IfNoStream (stream_of fault) P
