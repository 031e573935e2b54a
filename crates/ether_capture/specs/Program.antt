-- What the program has read and written, and how it ends.
use Rattle.std.specs.Prelude.{◌≡◌, ◌⊎◌, ℕ, List, [], Option, Some, None, Result, Ok, Err, IfNone, OnOk, Bool, true, false, ⊤, map, String, string_bytes}
use Rattle.std.specs.Vec.Iter.{into_iter_items}
use Rattle.std.specs.declared.vec.IntoIter.{IntoIter}
use Rattle.std.specs.Io.KnownBytes.{Appends}
use Rattle.ether_capture.specs.Options.{RequestValue, Run, Lists, Merges, Help, Version, NamesRequest, RefusesWords, format_in, heading_in, statistics_asked}
use Rattle.ether_capture.specs.declared.request.RequestError.{RequestError}
use Rattle.ether_capture.specs.declared.request.RequestError.TheVariants as reasons
use Rattle.ether_capture.specs.Copies.{HasRead, IsCopied}
use Rattle.ether_capture.specs.World.{Kept, Named, Reading, Streams, World}
use Rattle.ether_capture.specs.SeveralFiles.{HasListed}
use Rattle.ether_stream.specs.Run.{IfSettled}
use Rattle.ether_stream.specs.Task.{TaskValue}
use Rattle.ether_stream.specs.Outcome.{last_bytes, last_text, is_message, status_of_program}
use Rattle.ether_stream.specs.declared.outcome.Outcome.{Outcome}
use Rattle.ether_stream.specs.declared.outcome.Outcome.TheVariants as outcomes
use Rattle.ether_stream.specs.declared.outcome.RunFault.TheVariants.{Input, Output}
use Rattle.ether_capture.specs.Journal.{known_if}
use Rattle.ether_capture.specs.Merging.{HasMerged}
use Rattle.ether_capture.specs.Statistics.{Shows}
use Rattle.ether_capture.specs.declared.statistics_format.Counting.{Counting}
use Rattle.ether_format.specs.Texts.{format_heading}
use Rattle.ether_format.specs.declared.format.Format.{Format}

-- the arguments, with the program's name first, if they can be read
abbrev pub arguments_of : {A E : Type 0} → Result (IntoIter (String A) A) E → Option (List (List ℕ))
arguments_of (Ok args) = Some (map string_bytes (into_iter_items args))
arguments_of (Err error) = None

-- The capture of this name was read; or it can't be opened, and nothing is written.
abbrev pub HasRunFile : Named → (can_write : Type 0) → (task : TaskValue) → (name : List ℕ)
    → (held holds : Option (List ℕ)) → Outcome → Type 0
HasRunFile n can_write task name held holds (outcomes.File named end) =
    (named.now ≡ name)
    × ((before after : Option (List ℕ)) × n.has name before
    × HasRead n.can_read can_write task before after held holds end)
HasRunFile n can_write task name held holds (outcomes.NotOpened named fault) =
    (named.now ≡ name) × n.can_refuse fault × (holds ≡ held)
HasRunFile n can_write task name held holds outcome = ⊥

-- Standard input was copied to the file of this name; or that can't get the copy.
abbrev pub HasCopiedInput : (can_fail : Type 0) → Kept → (task : TaskValue) → (output : List ℕ)
    → (before after had gets : Option (List ℕ)) → Outcome → Type 0
HasCopiedInput can_fail k task output before after had gets (outcomes.Run end) =
    IsCopied can_fail k k.keeps_input task before after had gets (Ok end)
HasCopiedInput can_fail k task output before after had gets (outcomes.NotWritten named fault) =
    (named.now ≡ output) × IsCopied can_fail k k.keeps_input task before after had gets (Err fault)
HasCopiedInput can_fail k task output before after had gets outcome = ⊥

-- .. the capture of this name was, of which nothing is kept after a fault; or it can't be opened
abbrev pub HasCopiedFile : Named → Kept → (task : TaskValue) → (name output : List ℕ)
    → (had gets : Option (List ℕ)) → Outcome → Type 0
HasCopiedFile n k task name output had gets (outcomes.File named end) =
    (named.now ≡ name)
    × ((before after : Option (List ℕ)) × n.has name before
    × IsCopied n.can_read k false task before after had gets (Ok end))
HasCopiedFile n k task name output had gets (outcomes.NotWritten named fault) =
    (named.now ≡ output) × (k.can_keep fault ⊎ k.can_copy) × (gets ≡ had)
HasCopiedFile n k task name output had gets (outcomes.NotOpened named fault) =
    (named.now ≡ name) × n.can_refuse fault × (gets ≡ had)
HasCopiedFile n k task name output had gets outcome = ⊥

-- What is asked for of one capture was made. Standard input is read only if no file is named, and nothing is written to
-- standard output if a file gets the copy. No message is written.
abbrev pub HasRunJob : Reading → Kept → TaskValue → (input output : Option (List ℕ)) → (before after : Streams)
    → Outcome → Type 0
HasRunJob r k task None None before after (outcomes.Run end) =
    HasRead r.can_fail r.can_write task before.input after.input before.output after.output end
    × (after ≡ record before { input = after.input; output = after.output })
HasRunJob r k task (Some name) None before after outcome =
    HasRunFile r.named r.can_write task name before.output after.output outcome
    × (after ≡ record before { output = after.output })
HasRunJob r k task None (Some output) before after outcome =
    HasCopiedInput r.can_fail k task output before.input after.input (before.files output) (after.files output) outcome
    × (after ≡ record before { input = after.input; files = after.files })
HasRunJob r k task (Some name) (Some output) before after outcome =
    HasCopiedFile r.named k task name output (before.files output) (after.files output) outcome
    × (after ≡ record before { files = after.files })
HasRunJob r k task input output before after outcome = ⊥

-- What is asked for was done. Only reading several files writes messages.
abbrev pub HasAnswered : World → RequestValue → (before after : Streams) → Outcome → Type 0
HasAnswered w (Run task heading input output) before after outcome =
    HasRunJob w.reading w.kept task input output before after outcome
HasAnswered w (Lists l) before after (outcomes.Files end) = HasListed w.reading w.can_tell l before after end
HasAnswered w (Merges format) before after outcome =
    HasMerged w.reading.can_fail w.reading.can_write format before.input after.input before.output after.output outcome
    × (after ≡ record before { input = after.input; output = after.output })
HasAnswered w Help before after outcomes.Help = after ≡ before
HasAnswered w Version before after outcomes.Version = after ≡ before
HasAnswered w request before after outcome = ⊥

-- the line of the names of columns, if it is asked for
abbrev pub heading_if : Option Format → List ℕ
heading_if None = []
heading_if (Some format) = format_heading format

abbrev pub heading_asked : RequestValue → Option Format
heading_asked request = format_in (heading_in request)

-- That line was written, and then what is asked for was done. Or the writer failed at the line, and nothing was read,
-- told or copied.
pub data HasHeaded (w : World) (request : RequestValue) (before after : Streams) : Outcome → Type 0 where
  headed : (outcome : Outcome) (mid : Option (List ℕ)) → Appends before.output mid (heading_if (heading_asked request))
      → HasAnswered w request (record before { output = mid }) after outcome
      → HasHeaded w request before after outcome
  failed : (format : Format) → heading_asked request ≡ Some format → w.reading.can_write
      → after ≡ record before { output = after.output }
      → HasHeaded w request before after (outcomes.Run (Err Output))

-- the writer has failed
abbrev pub is_unwritten : Outcome → Bool
is_unwritten (outcomes.Run (Err Output)) = true
is_unwritten (outcomes.File name (Err Output)) = true
is_unwritten (outcomes.Files (Err fault)) = true
is_unwritten outcome = false

-- What is asked for was done, but rows were not written: their texts were counted, as the journal knows them, and the
-- counts were. Or memory for these was refused. Or the writer, which can fail, has failed: this is the outcome for no
-- other reason.
pub record HasCountedTexts (w : World) (counting : Counting) (request : RequestValue) (before after : Streams)
    (outcome : Outcome)
    : Type 0 where
  pub rows : Option (List ℕ)
  pub end : Outcome
  pub done : HasHeaded (record w { reading = record w.reading { can_write = ⊤ } }) request
      (record before { output = known_if w.is_known }) (record after { output = rows }) end
  pub shown : ((outcome ≡ end) × (is_unwritten end ≡ false)
      × Shows w.is_known counting.is_joint rows counting.format before.output after.output)
      ⊎ (((outcome ≡ outcomes.NoMemory) × (after.output ≡ before.output))
      ⊎ ((outcome ≡ outcomes.Run (Err Output)) × w.reading.can_write))

-- what is asked for was done
abbrev pub HasDone : World → Option Counting → RequestValue → (before after : Streams) → Outcome → Type 0
HasDone w None = HasHeaded w
HasDone w (Some counting) = HasCountedTexts w counting

-- how the program answers arguments that ask for nothing
abbrev pub refusal_outcome : RequestError → Outcome
refusal_outcome (reasons.Usage usage) = outcomes.Usage usage
refusal_outcome (reasons.Filter error) = outcomes.NoFilter error
refusal_outcome reasons.Memory = outcomes.NoMemory

-- The arguments ask for something, and it was done. Or they are wrong, or can't be read, which is a fault of the input,
-- or memory for them was refused: then nothing is read, written or told.
pub data HasObeyed (w : World) : (words : Option (List (List ℕ))) → (before after : Streams) → Outcome → Type 0 where
  unread : (before : Streams) → HasObeyed w None before before (outcomes.Run (Err Input))
  refused : (words : List (List ℕ)) (e : RequestError) (before : Streams) → RefusesWords words e
      → HasObeyed w (Some words) before before (refusal_outcome e)
  done : (words : List (List ℕ)) (request : RequestValue) (before after : Streams) (outcome : Outcome)
      → NamesRequest words request → HasDone w (statistics_asked request) request before after outcome
      → HasObeyed w (Some words) before after outcome

-- if no stream has failed
abbrev pub IfGone : Outcome → Type 0 → Type 0
IfGone (outcomes.Run end) P = IfSettled end P
IfGone (outcomes.File name end) P = IfSettled end P
IfGone (outcomes.Files end) P = OnOk end P
IfGone outcome P = P

-- the last line of the outcome, if there is one, is written, or the writer, which can fail, has failed
pub record PrintsLast (can_write : Type 0) (outcome : Outcome) (held holds : Option (List ℕ))
    (printed : Bool) : Type 0 where
  pub written : printed ≡ true → Appends held holds (last_bytes (last_text outcome))
  pub silent : IfNone (last_text outcome) (printed ≡ true)
  pub failed : printed ≡ false → can_write

-- .. where the lines are, or if it is a message, where messages are. Nothing else has changed.
abbrev pub PrintsApart : (can_write can_tell : Type 0) → (message : Bool) → (outcome : Outcome)
    → (before after : Streams) → (printed : Bool) → Type 0
PrintsApart can_write can_tell false outcome before after printed =
    PrintsLast can_write outcome before.output after.output printed × (after ≡ record before { output = after.output })
PrintsApart can_write can_tell true outcome before after printed =
    PrintsLast can_tell outcome before.messages after.messages printed
    × (after ≡ record before { messages = after.messages })

-- The program has done what the words ask for, has printed the last line, and ends with the status of its outcome.
pub record HasServed (w : World) (words : Option (List (List ℕ))) (before after : Streams) (status : ℕ) : Type 0 where
  pub outcome : Outcome
  pub printed : Bool
  pub mid : Streams
  pub obeyed : HasObeyed w words before mid outcome
  pub ended : PrintsApart w.reading.can_write w.can_tell (is_message outcome) outcome mid after printed
  pub is_status : status ≡ status_of_program outcome printed
