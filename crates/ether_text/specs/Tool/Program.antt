-- What the program has read and written, and how it ends.
use Rattle.std.specs.Prelude.{◌≡◌, ℕ, List, [], ◌++◌, codes, Option, Some, None, Result, Ok, Err, IfNone, Bool, true, IfErr, ⊤}
use Rattle.std.specs.Io.KnownBytes.{Appends}
use Rattle.ether_text.specs.Tool.Command.{NamesCommand, NamesNoCommand}
use Rattle.ether_text.specs.Tool.Run.{HasRun, OnStreamFault}
use Rattle.ether_text.specs.Tool.Outcome.{last_text, status_of_program}
use Rattle.ether_text.specs.declared.tool.mode.Mode.{Mode}
use Rattle.ether_text.specs.declared.tool.mode.Usage.{Usage}
use Rattle.ether_text.specs.declared.verdict.Verdict.{Verdict}
use Rattle.ether_text.specs.declared.tool.outcome.ToolFault.{ToolFault}
use Rattle.ether_text.specs.declared.tool.outcome.ToolFault.TheVariants.{Input}

-- The words name a command, and it has run. Or they name none, or they can't be read, which counts as a fault of the
-- input; then nothing is read or written.
abbrev pub HasObeyed : Option (List (List ℕ)) → (before after held holds : Option (List ℕ))
    → Result (Result Verdict ToolFault) Usage → Type 0
HasObeyed (Some words) before after held holds (Ok outcome) =
    (command : Mode × Option ℕ) × NamesCommand words command
    × HasRun (record { mode = command.0; limit = command.1 }) before after held holds outcome
HasObeyed (Some words) before after held holds (Err usage) = NamesNoCommand words × (after ≡ before) × (holds ≡ held)
HasObeyed None before after held holds outcome = (outcome ≡ Ok (Err Input)) × (after ≡ before) × (holds ≡ held)

-- a claim for a fault of the input, and one for a fault of the output
abbrev pub OnFailure : Result (Result Verdict ToolFault) Usage → (input output : Type 0) → Type 0
OnFailure (Ok outcome) input output = IfErr outcome (λ fault. OnStreamFault fault input output)
OnFailure (Err usage) input output = ⊤

-- the last line with its line feed, if there is one
abbrev pub last_bytes : Option (List ℕ) → List ℕ
last_bytes None = []
last_bytes (Some text) = text ++ codes "\n"

-- the last line of the outcome, if there is one, is written, or the writer has failed
pub record PrintsLast (outcome : Result (Result Verdict ToolFault) Usage) (held holds : Option (List ℕ))
    (printed : Bool) : Type 0 where
  pub written : printed ≡ true → Appends held holds (last_bytes (last_text outcome))
  pub silent : IfNone (last_text outcome) (printed ≡ true)

-- The program has run the command that the words name, has printed the last line, and ends with the status of its
-- outcome.
pub record HasServed (words : Option (List (List ℕ))) (before after held holds : Option (List ℕ))
    (status : ℕ) : Type 0 where
  pub outcome : Result (Result Verdict ToolFault) Usage
  pub printed : Bool
  pub between : Option (List ℕ)
  pub obeyed : HasObeyed words before after held between outcome
  pub ended : PrintsLast outcome between holds printed
  pub is_status : status ≡ status_of_program outcome printed
