-- Copies in files: what was made of a capture, and what a file gets of it.
use Rattle.std.specs.Prelude.{◌≡◌, ◌≢◌, ◌⊎◌, ℕ, List, Bool, false, Option, Result, Ok, Err, IfErr, MatchResult}
use Rattle.std.specs.Io.KnownBytes.{IsAtEnd}
use Rattle.ether_text.specs.Run.{IsEndless}
use Rattle.ether_text.specs.declared.verdict.Verdict.{Verdict}
use Rattle.ether_capture.specs.World.{Kept}
use Rattle.ether_stream.specs.Run.{HasRun, HasNoMemory, OnStreamFault}
use Rattle.ether_stream.specs.Task.{TaskValue}
use Rattle.ether_stream.specs.declared.outcome.RunFault.{RunFault}
use Rattle.ether_stream.specs.declared.outcome.RunFault.TheVariants.{Output}
use Rattle.ether_files.specs.Copies.{kept_of}
use Rattle.ether_files.specs.declared.write_fault.WriteFault.{WriteFault}

-- A capture was read, from before to after, and what is asked for was made of it. Only a stream that can fail has
-- failed, or one that does not end.
pub record HasRead (can_read can_write : Type 0) (task : TaskValue) (before after held holds : Option (List ℕ))
    (end : Result Verdict RunFault)
    : Type 0 where
  pub run : HasRun task before after held holds end ⊎ HasNoMemory before after held holds end
  pub failed : IfErr end (λ fault. OnStreamFault fault (can_read ⊎ IsEndless before after) can_write)

-- .. and a file, which had these bytes, has what was made, if the capture was read to its end; else what was made
-- before the fault, if that is kept and is something; else it is as it was
pub record HasCopied (can_read can_write : Type 0) (keeps : Bool) (task : TaskValue)
    (before after had gets : Option (List ℕ)) (end : Result Verdict RunFault) : Type 0 where
  pub held : Option (List ℕ)
  pub holds : Option (List ℕ)
  pub is_new : IsAtEnd held
  pub read : HasRead can_read can_write task before after held holds end
  pub going : end ≢ Err Output
  pub is_file : MatchResult end (λ verdict. gets ≡ holds) (λ fault. gets ≡ kept_of keeps holds had)

-- .. or it can't get it, and is as it was, unless what was written before a fault of writing is kept
abbrev pub IsCopied : (can_read : Type 0) → Kept → (keeps : Bool) → (task : TaskValue)
    → (before after had gets : Option (List ℕ)) → Result (Result Verdict RunFault) WriteFault → Type 0
IsCopied can_read k keeps task before after had gets (Ok end) =
    HasCopied can_read k.can_copy keeps task before after had gets end
IsCopied can_read k keeps task before after had gets (Err fault) =
    (k.can_keep fault × (gets ≡ had)) ⊎ (k.can_copy × (keeps ≡ false → gets ≡ had))
