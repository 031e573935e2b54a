-- What is read of several captures, one after the other, and written.
use Rattle.std.specs.Prelude.{◌≡◌, ◌≢◌, ◌⊎◌, ℕ, ◌+◌, max, List, [], ◌∷◌, ◌++◌, codes, length, false, Option, Some, None, Result, Ok, Err, IfErr}
use Rattle.std.specs.List.{sum_by}
use Rattle.std.specs.Io.KnownBytes.{Appends}
use Rattle.ether_pcap.specs.Capture.{PacketValue}
use Rattle.ether_pcap.specs.Copies.{Selected}
use Rattle.ether_text.specs.Run.{IsEndless}
use Rattle.ether_output.specs.declared.output_fault.OutputFault.{OutputFault}
use Rattle.ether_text.specs.declared.verdict.Verdict.{Verdict}
use Rattle.ether_stream.specs.FrameLines.{if_selected, skip_count, totals_line_if}
use Rattle.ether_capture.specs.Options.{ListingValue, named, names_input}
use Rattle.ether_capture.specs.World.{Named, Reading, Streams}
use Rattle.ether_stream.specs.Outcome.{status_of_file, text_of_file, text_of_input}
use Rattle.ether_stream.specs.Packets.{counted, IsLeftOf}
use Rattle.ether_stream.specs.Run.{HasRunOver, HasNoMemory, OnStreamFault}
use Rattle.ether_stream.specs.Task.{TaskValue, Lines, IsChosen, IsOpen}
use Rattle.ether_stream.specs.declared.counts.PacketCounts.{PacketCounts}
use Rattle.ether_stream.specs.declared.selection.Selection.{Selection}
use Rattle.ether_capture.specs.declared.several_files.Tally.{Tally}
use Rattle.ether_stream.specs.declared.outcome.FileEnd.{FileEnd}
use Rattle.ether_stream.specs.declared.outcome.FileEnd.TheVariants as ends
use Rattle.ether_stream.specs.declared.outcome.RunFault.{RunFault}
use Rattle.ether_stream.specs.declared.outcome.RunFault.TheVariants.{Output}

-- before the first capture
abbrev pub nothing_read : (count : Option ℕ) → Tally
nothing_read count = record { packets = 0; skipped = 0; undecided = 0; left = count; status = 0 }

-- what is made of the next capture, in the file of this name: lines, numbered on, of as many packets as are still asked
-- for
abbrev pub next_task : ListingValue → (at : Tally) → (name : List ℕ) → TaskValue
next_task l at name =
    record {
      select = l.select;
      count = at.left;
      form = Lines (record l.options { file = named name; before = Some at.packets });
    }

-- the tally after another capture, which has these packets and this end
pub record IsTallied (select : Option Selection) (at : Tally) (packets : List PacketValue) (end : FileEnd)
    (next : Tally) : Type 0 where
  pub kept : List PacketValue
  pub selected : Selected (IsChosen select) packets kept
  pub is_count : next.packets ≡ counted (at.packets + length packets)
  pub is_skipped : next.skipped ≡ counted (at.skipped + sum_by skip_count packets)
  pub undecided : List PacketValue
  pub are_undecided : Selected (IsOpen select) packets undecided
  pub is_undecided : next.undecided ≡ counted (at.undecided + length undecided)
  pub is_left : IsLeftOf at.left (length kept) next.left
  pub is_status : next.status ≡ max at.status (status_of_file end)

-- the tally after another capture, by what was counted of that and its end
pub record IsAfter (at : Tally) (counts : PacketCounts) (end : FileEnd) (next : Tally) : Type 0 where
  pub packets : next.packets ≡ counts.number
  pub skipped : next.skipped ≡ counted (at.skipped + counts.skipped)
  pub undecided : next.undecided ≡ counted (at.undecided + counts.undecided)
  pub left : next.left ≡ counts.left
  pub status : next.status ≡ max at.status (status_of_file end)

-- A run over a capture, which had these bytes before and has those after, has found these packets. Or memory was
-- refused before anything was read: then none is found, and nothing is written.
abbrev pub HasFound : (can_read can_write : Type 0) → (task : TaskValue) → List PacketValue
    → (before after held holds : Option (List ℕ)) → Result Verdict RunFault → Type 0
HasFound can_read can_write task packets before after held holds end =
    (HasRunOver task packets before after held holds end ⊎ ((packets ≡ []) × HasNoMemory before after held holds end))
    × IfErr end (λ fault. OnStreamFault fault (can_read ⊎ IsEndless before after) can_write)

-- .. over the capture in the file of this name; or that can't be opened, and nothing is written
abbrev pub HasEndedFile : Named → (can_write : Type 0) → (task : TaskValue) → (name : List ℕ) → List PacketValue
    → (held holds : Option (List ℕ)) → FileEnd → Type 0
HasEndedFile n can_write task name packets held holds (ends.NotOpened fault) =
    n.can_refuse fault × (packets ≡ []) × (holds ≡ held)
HasEndedFile n can_write task name packets held holds (ends.Read end) =
    (before after : Option (List ℕ)) × n.has name before
    × HasFound n.can_read can_write task packets before after held holds end

-- .. over standard input
abbrev pub HasEndedInput : (can_fail can_write : Type 0) → (task : TaskValue) → List PacketValue
    → (before after held holds : Option (List ℕ)) → FileEnd → Type 0
HasEndedInput can_fail can_write task packets before after held holds (ends.NotOpened fault) = ⊥
HasEndedInput can_fail can_write task packets before after held holds (ends.Read end) =
    HasFound can_fail can_write task packets before after held holds end

-- .. over a file that is named, which leaves standard input as it was, or over standard input. No message is written.
abbrev pub HasEnded : Reading → (task : TaskValue) → (name : Option (List ℕ)) → List PacketValue
    → (before after : Streams) → FileEnd → Type 0
HasEnded r task (Some name) packets before after end =
    (after ≡ record before { output = after.output })
    × HasEndedFile r.named r.can_write task name packets before.output after.output end
HasEnded r task None packets before after end =
    (after ≡ record before { input = after.input; output = after.output })
    × HasEndedInput r.can_fail r.can_write task packets before.input after.input before.output after.output end

-- why a capture was not read to its end
abbrev pub text_of_capture : (name : Option (List ℕ)) → FileEnd → Option (List ℕ)
text_of_capture (Some name) end = text_of_file name end
text_of_capture None (ends.Read end) = text_of_input end
text_of_capture None (ends.NotOpened fault) = None

-- what was written is flushed, or nothing was
abbrev pub Settles : {W : Type 0} → (is_flushed : W → Type 0) → (old new : W) → Type 0
Settles is_flushed old new = is_flushed new ⊎ (new ≡ old)

-- The line is written to the messages, if there is one. Or the writer of messages, which can fail, has failed.
abbrev pub Tells : (can_tell : Type 0) → (text : Option (List ℕ)) → (told tells : Option (List ℕ)) → Type 0
Tells can_tell None told tells = tells ≡ told
Tells can_tell (Some text) told tells = Appends told tells (text ++ codes "\n") ⊎ can_tell

-- A capture was read: its lines are written, and nothing else. The line that says why it was not read to its end, if it
-- was not, is written to the messages.
pub record ReadsFile (r : Reading) (can_tell : Type 0) (l : ListingValue) (name : List ℕ) (at : Tally)
    (before : Streams) (next : Tally) (after : Streams) : Type 0
  where
    pub packets : List PacketValue
    pub end : FileEnd
    pub mid : Streams
    pub ended : HasEnded r (next_task l at name) (named name) packets before mid end
    pub going : end ≢ ends.Read (Err Output)
    pub is_told : Tells can_tell (text_of_capture (named name) end) mid.messages after.messages
    pub kept : after ≡ record mid { messages = after.messages }
    pub tallied : IsTallied l.select at packets end next

-- Captures were read one after the other, up to the last one or until the requested number of packets was reached.
pub data ReadsFiles (r : Reading) (can_tell : Type 0) (l : ListingValue)
    : (names : List (List ℕ)) → (at : Tally) → (before : Streams) → (last : Tally) → (after : Streams) → Type 0 where
  no_more : (at : Tally) (before : Streams) → ReadsFiles r can_tell l [] at before at before
  enough : (names : List (List ℕ)) (at : Tally) (before : Streams) → at.left ≡ Some 0
      → ReadsFiles r can_tell l names at before at before
  next : (name : List ℕ) (names : List (List ℕ)) (at then last : Tally) (before mid after : Streams)
      → at.left ≢ Some 0 → ReadsFile r can_tell l name at before then mid
      → ReadsFiles r can_tell l names then mid last after
      → ReadsFiles r can_tell l (name ∷ names) at before last after

-- .. and the line of the totals of all of them is written. After a fault of the writer nothing is claimed, but that
-- standard input was read only if it is named, and that no file has changed.
abbrev pub HasListed : Reading → (can_tell : Type 0) → (l : ListingValue) → (before after : Streams)
    → Result ℕ OutputFault → Type 0
HasListed r can_tell l before after (Ok status) =
    (last : Tally) × (mid : Streams)
    × ReadsFiles r can_tell l l.files (nothing_read l.count) before last mid
    × Appends mid.output after.output
    (totals_line_if l.options.is_plain last.packets last.skipped (if_selected l.select last.undecided))
    × (after ≡ record mid { output = after.output })
    × (status ≡ last.status)
HasListed r can_tell l before after (Err fault) =
    r.can_write × (names_input l.files ≡ false → after.input ≡ before.input) × (after.files ≡ before.files)
