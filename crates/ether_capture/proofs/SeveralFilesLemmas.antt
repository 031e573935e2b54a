-- What is read of several captures, one after the other.
use Rattle.std.proofs.Common.{◌≡◌, ◌≢◌, ◌⊎◌, ℕ, List, [], ◌∷◌, length, map, codes, Bool, true, false, Option, Some, None, IfSome, Result, Ok, Err, IfErr, refl, sym, ap, subst, ◌∙◌, arith, inl, inr}
use Rattle.std.specs.Prelude.{if◌then◌else◌}
use Rattle.std.specs.Str.{bytes_eq}
use Rattle.std.specs.Borrow.{Bor}
use Rattle.std.specs.Vec.Iter.{into_iter_items}
use Rattle.std.specs.declared.vec.IntoIter.{IntoIter}
use Rattle.ether_pcap.specs.Capture.{PacketValue}
use Rattle.ether_text.specs.Run.{IsEndless}
use Rattle.ether_text.specs.declared.verdict.Verdict.{Verdict}
use Rattle.ether_stream.specs.Counting.{AreCounted, HasCounted, IfFileRead, IfRead}
use Rattle.ether_capture.specs.SeveralFiles.{HasEnded, HasFound, IsAfter, ReadsFile, Settles, Tells, next_task, text_of_capture}
use Rattle.ether_capture.specs.World.{Reading, Streams, streams}
use Rattle.ether_capture.specs.Options.{ListingValue, named, names_input}
use Rattle.ether_stream.specs.Packets.{IsLeftOf}
use Rattle.ether_stream.specs.Run.{HasNoMemory, HasRunOver, OnStreamFault}
use Rattle.ether_stream.specs.Task.{TaskValue}
use Rattle.ether_stream.specs.declared.counts.PacketCounts.{PacketCounts}
use Rattle.ether_capture.specs.declared.several_files.Tally.{Tally}
use Rattle.ether_stream.specs.declared.outcome.FileEnd.{FileEnd}
use Rattle.ether_stream.specs.declared.outcome.FileEnd.TheVariants as ends
use Rattle.ether_stream.specs.declared.outcome.RunFault.{RunFault}
use Rattle.ether_stream.specs.declared.outcome.RunFault.TheVariants as faults

-- the names that are left
abbrev pub names_in : {A : Type 0} → IntoIter (Bor (List ℕ)) A → List (List ℕ)
names_in files = map (λ s. s.now) (into_iter_items files)

-- what was flushed, or not written to, twice
pub settled : {W : Type 0} (is_flushed : W → Type 0) (can_fail : Type 0) (a b c : W)
    → Settles is_flushed a b ⊎ can_fail → Settles is_flushed b c ⊎ can_fail → Settles is_flushed a c ⊎ can_fail
settled is_flushed can_fail a b c (inr fails) after = inr fails
settled is_flushed can_fail a b c (inl first) (inr fails) = inr fails
settled is_flushed can_fail a b c (inl first) (inl (inl flushed)) = inl (inl flushed)
settled is_flushed can_fail a b c (inl (inl flushed)) (inl (inr same)) =
    inl (inl (subst is_flushed (sym same) flushed))
settled is_flushed can_fail a b c (inl (inr same)) (inl (inr again)) = inl (inr (again ∙ same))

-- the names after one that is not that of standard input
module _ (b : Bool) (word : List ℕ) (others : Bool) where
  not_input : (if b then true else others) ≡ false → ((if b then None else Some word) ≡ Some word) × (others ≡ false)
  not_input is = by b is
    where
      by : (c : Bool) → (if c then true else others) ≡ false
          → ((if c then None else Some word) ≡ Some word) × (others ≡ false)
      by true is = absurd cc
      by false is = (refl, is)

pub file_names : (word : List ℕ) (names : List (List ℕ)) → names_input (word ∷ names) ≡ false
    → (named word ≡ Some word) × (names_input names ≡ false)
file_names word names is = not_input (bytes_eq word (codes "-")) word (names_input names) is

module _ (r : Reading) where
  -- lines edit no packet
  no_edit : (l : ListingValue) (at : Tally) (word : List ℕ) (packets : List PacketValue)
      (before after held holds : Option (List ℕ)) (offset : ℕ)
      → HasRunOver (next_task l at word) packets before after held holds (Err (faults.NotEdited offset))
      ⊎ ((packets ≡ []) × HasNoMemory before after held holds (Err (faults.NotEdited offset))) → ⊥
  no_edit l at word packets before after held holds offset (inl run) = run.stops
  no_edit l at word packets before after held holds offset (inr (none, no_memory)) = let e = no_memory.0 in absurd cc

  -- how many packets were read is known of each end but that of a failed output
  counts_known : (l : ListingValue) (at : Tally) (word : List ℕ) (name : Option (List ℕ))
      (packets : List PacketValue) (before after : Streams) (end : FileEnd) {P : Type 0}
      → HasEnded r (next_task l at word) name packets before after end
      → IfFileRead end P → end ≢ ends.Read (Err faults.Output) → P
  counts_known l at word name packets before after (ends.NotOpened fault) ended known going = known
  counts_known l at word name packets before after (ends.Read (Ok verdict)) ended known going = known
  counts_known l at word name packets before after (ends.Read (Err (faults.Capture fault))) ended known going = known
  counts_known l at word (Some name) packets before after (ends.Read (Err (faults.NotEdited offset)))
      (same, (first, last, is, (run, failed))) known going =
      absurd (no_edit l at word packets first last before.output after.output offset run)
  counts_known l at word None packets before after (ends.Read (Err (faults.NotEdited offset)))
      (same, (run, failed)) known going =
      absurd (no_edit l at word packets before.input after.input before.output after.output offset run)
  counts_known l at word name packets before after (ends.Read (Err faults.Input)) ended known going = known
  counts_known l at word name packets before after (ends.Read (Err faults.Output)) ended known going =
      absurd (going refl)
  counts_known l at word name packets before after (ends.Read (Err faults.Memory)) ended known going = known

  -- a failed output is a fault of the writer
  pub output_failed : (task : TaskValue) (name : Option (List ℕ)) (packets : List PacketValue)
      (before after : Streams) (end : FileEnd)
      → HasEnded r task name packets before after end → end ≡ ends.Read (Err faults.Output) → r.can_write
  output_failed task name packets before after end ended is =
      by name (subst (λ (e : FileEnd). HasEnded r task name packets before after e) is ended)
    where
      by : (n : Option (List ℕ)) → HasEnded r task n packets before after (ends.Read (Err faults.Output))
          → r.can_write
      by (Some n) ended = ended.1.3.1
      by None ended = ended.1.1

  -- a file that is named leaves standard input as it was
  pub input_kept : (task : TaskValue) (name : Option (List ℕ)) (packets : List PacketValue)
      (before after : Streams) (end : FileEnd)
      → HasEnded r task name packets before after end → IfSome name (λ _. after.input ≡ before.input)
  input_kept task (Some name) packets before after end ended = ap (λ (s : Streams). s.input) ended.0
  input_kept task None packets before after end ended = tt

  -- a capture was read, and why it was not read to its end is told
  pub file_read : (can_tell : Type 0) (l : ListingValue) (task : TaskValue) (name : List ℕ) (at next : Tally)
      (before mid after : Streams) (packets : List PacketValue) (end : FileEnd) (counts : PacketCounts)
      → task ≡ next_task l at name
      → HasEnded r task (named name) packets before mid end
      → IfFileRead end (AreCounted task packets counts) → end ≢ ends.Read (Err faults.Output)
      → Tells can_tell (text_of_capture (named name) end) mid.messages after.messages
      → after ≡ record mid { messages = after.messages }
      → IsAfter at counts end next
      → ReadsFile r can_tell l name at before next after
  file_read can_tell l task name at next before mid after packets end counts same ended known going is_told kept
      is_after =
      let skipped = is_after.skipped in
      let undecided = is_after.undecided in
      let ended_so =
      subst (λ (t : TaskValue). HasEnded r t (named name) packets before mid end) same ended in
      let known_so = subst (λ (t : TaskValue). IfFileRead end (AreCounted t packets counts)) same known in
      let are = counts_known l at name (named name) packets before mid end ended_so known_so going in
      record {
        packets = packets;
        end = end;
        mid = mid;
        ended = ended_so;
        going = going;
        is_told = is_told;
        kept = kept;
        tallied = record {
          kept = are.kept;
          selected = are.selected;
          is_count = is_after.packets ∙ are.is_number;
          is_skipped = let a = are.is_skipped in omega (arith, skipped, a);
          undecided = are.undecided.undecided;
          are_undecided = are.undecided.selected;
          is_undecided = let a = are.undecided.is_count in omega (arith, undecided, a);
          is_left = subst (IsLeftOf at.left (length are.kept)) (sym is_after.left) are.is_left;
          is_status = is_after.status;
        };
      }

-- a run that was counted, or had no memory, is the end of standard input
input_counted : (can_fail can_write : Type 0) (task : TaskValue) (before after held holds : Option (List ℕ))
    (end : Result Verdict RunFault) (counts : PacketCounts)
    → HasCounted task before after held holds end counts
    ⊎ (HasNoMemory before after held holds end × AreCounted task [] counts)
    → IfErr end (λ fault. OnStreamFault fault (can_fail ⊎ IsEndless before after) can_write)
    → (packets : List PacketValue)
    × HasFound can_fail can_write task packets before after held holds end
    × IfFileRead (ends.Read end) (AreCounted task packets counts)
input_counted can_fail can_write task before after held holds end counts (inl run) failed =
    (run.packets, (inl run.run, failed), run.counted)
input_counted can_fail can_write task before after held holds (Ok verdict) counts (inr (none, are)) failed = absurd cc
input_counted can_fail can_write task before after held holds (Err fault) counts (inr (none, are)) failed =
    ([], (inr (refl, none), failed), memory_counted fault)
  where
    memory_counted : (f : RunFault) → IfRead (Err f) (AreCounted task [] counts)
    memory_counted (faults.Capture fault) = are
    memory_counted (faults.NotEdited offset) = tt
    memory_counted faults.Input = are
    memory_counted faults.Output = tt
    memory_counted faults.Memory = are

pub input_ended : (r : Reading) (task : TaskValue) (before after held holds : Option (List ℕ))
    (end : Result Verdict RunFault) (counts : PacketCounts)
    → HasCounted task before after held holds end counts
    ⊎ (HasNoMemory before after held holds end × AreCounted task [] counts)
    → IfErr end (λ fault. OnStreamFault fault (r.can_fail ⊎ IsEndless before after) r.can_write)
    → (packets : List PacketValue)
    × ((told : Option (List ℕ)) (files : List ℕ → Option (List ℕ))
    → HasEnded r task None packets (streams before held told files) (streams after holds told files) (ends.Read end))
    × IfFileRead (ends.Read end) (AreCounted task packets counts)
input_ended r task before after held holds end counts run failed =
    let s = input_counted r.can_fail r.can_write task before after held holds end counts run failed in
    (s.0, (λ told files. (refl, s.1)), s.2)

-- .. or of the file of a name
pub run_ended : (r : Reading) (task : TaskValue) (name : List ℕ) (given before after held holds : Option (List ℕ))
    (end : Result Verdict RunFault) (counts : PacketCounts)
    → r.named.has name before
    → HasCounted task before after held holds end counts
    ⊎ (HasNoMemory before after held holds end × AreCounted task [] counts)
    → IfErr end (λ fault. OnStreamFault fault (r.named.can_read ⊎ IsEndless before after) r.can_write)
    → (packets : List PacketValue)
    × ((told : Option (List ℕ)) (files : List ℕ → Option (List ℕ))
    → HasEnded r task (Some name) packets (streams given held told files) (streams given holds told files)
    (ends.Read end))
    × IfFileRead (ends.Read end) (AreCounted task packets counts)
run_ended r task name given before after held holds end counts is run failed =
    let s = input_counted r.named.can_read r.can_write task before after held holds end counts run failed in
    (s.0, (λ told files. (refl, (before, after, is, s.1))), s.2)
