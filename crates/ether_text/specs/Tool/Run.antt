-- What a run writes for its input.
use Rattle.std.specs.Prelude.{◌≡◌, ◌==◌, ℕ, ◌+◌, ◌-◌, ◌^◌, min, List, [], ◌∷◌, ◌++◌, length, Bool, true, false, ◌&&◌, Option, Some, None, Result, Ok, Err, ⊤}
use Rattle.std.specs.List.{All}
use Rattle.std.specs.Str.Lines.{lines}
use Rattle.std.specs.Io.KnownBytes.{Appends}
use Rattle.ether_text.specs.Tool.Answer.{Answers}
use Rattle.ether_text.specs.Tool.Frame.{IsFrame, IsBadLine}
use Rattle.ether_text.specs.declared.tool.command.Command.{Command}
use Rattle.ether_text.specs.declared.verdict.Verdict.{Verdict}
use Rattle.ether_text.specs.Verdict.{verdict_of}
use Rattle.ether_text.specs.Run.{AnswersAll, StopsIn, BreaksOffAfter, Stream, OnStream, IfNoStream}
use Rattle.ether_text.specs.Run as streams
use Rattle.ether_text.specs.declared.tool.outcome.ToolFault.{ToolFault}
use Rattle.ether_text.specs.declared.tool.outcome.ToolFault.TheVariants.{BadLine, Input, Output}

-- the line names a frame, and this is the text for it
pub record IsLineAnswered (command : Command) (line text : List ℕ) (accepted : Bool) : Type 0 where
  pub frame : List ℕ
  pub named : IsFrame line frame
  pub answered : Answers command frame text accepted

-- this is the text for the lines in order, and `all` says whether all their frames are accepted
abbrev pub AreAnswered : Command → List (List ℕ) → List ℕ → Bool → Type 0
AreAnswered command [] text all = (text ≡ []) × (all ≡ true)
AreAnswered command (line ∷ others) text all =
    (first : List ℕ) × (accepted : Bool) × (rest : List ℕ) × (others_accepted : Bool)
    × IsLineAnswered command line first accepted × AreAnswered command others rest others_accepted
    × (text ≡ first ++ rest) × (all ≡ (accepted && others_accepted))

-- no byte of the line is an LF
abbrev pub HasNoLineFeed : List ℕ → Type 0
HasNoLineFeed line = All (λ byte. (byte == 10) ≡ false) line

-- the number of the line after this many lines: lines are counted from 1, up to 2 ^ 64 - 1, which all later lines have
-- too
abbrev pub number_after : ℕ → ℕ
number_after count = min (count + 1) (2 ^ 64 - 1)

-- The line with this number is the first bad line of the input, and this is the text for the lines before it.
pub record StopsAtLine (command : Command) (input : List ℕ) (number : ℕ) (text : List ℕ) : Type 0 where
  pub good : List (List ℕ)
  pub bad : List ℕ
  pub later : List (List ℕ)
  pub all_accepted : Bool
  pub parts : lines input ≡ good ++ bad ∷ later
  pub answered : AreAnswered command good text all_accepted
  pub is_bad : IsBadLine bad
  pub is_number : number ≡ number_after (length good)

-- Between `before` and `after` the reader gave all its bytes, and the writer took the text for their lines.
abbrev pub AnswersInput : Command → (before after held holds : Option (List ℕ)) → Verdict → Type 0
AnswersInput command before after held holds verdict =
    AnswersAll (λ input. AreAnswered command (lines input)) before after held holds verdict

-- Between `before` and `after` the reader gave some of its bytes. The line with this number is the first bad line of
-- its input, and the writer took the text for the lines before it.
abbrev pub StopsInput : Command → (before after held holds : Option (List ℕ)) → (number : ℕ) → Type 0
StopsInput command before after held holds number =
    StopsIn (λ input. StopsAtLine command input number) before after held holds

-- The lines `done` end in the bytes `taken`, whatever follows these, and `text` is the text for them.
pub record EndsLines (command : Command) (taken text : List ℕ) : Type 0 where
  pub done : List (List ℕ)
  pub begun : List ℕ
  pub all_accepted : Bool
  pub parts : (rest : List ℕ) → lines (taken ++ rest) ≡ done ++ lines (begun ++ rest)
  pub in_line : HasNoLineFeed begun
  pub answered : AreAnswered command done text all_accepted

-- Between `before` and `after` the reader gave some of its bytes, and the writer took the text for the lines that end
-- in them.
abbrev pub BreaksOff : Command → (before after held holds : Option (List ℕ)) → Type 0
BreaksOff command before after held holds = BreaksOffAfter (EndsLines command) before after held holds

-- What a run has read and written, by its outcome. Nothing is claimed after a fault of the writer.
abbrev pub HasRun : Command → (before after held holds : Option (List ℕ)) → Result Verdict ToolFault → Type 0
HasRun command before after held holds (Ok verdict) = AnswersInput command before after held holds verdict
HasRun command before after held holds (Err (BadLine number)) = StopsInput command before after held holds number
HasRun command before after held holds (Err Input) = BreaksOff command before after held holds
HasRun command before after held holds (Err Output) = ⊤

-- What a run over a slice of these bytes has written, by its outcome. There is never a fault of the reader, and a fault
-- of the writer only if that can fail.
abbrev pub AnswersSlice : Command → (can_fail : Type 0) → (bytes : List ℕ) → (held holds : Option (List ℕ))
    → Result Verdict ToolFault → Type 0
AnswersSlice command can_fail bytes held holds (Ok verdict) =
    (text : List ℕ) × (all_accepted : Bool) × AreAnswered command (lines bytes) text all_accepted
    × (verdict ≡ verdict_of all_accepted) × Appends held holds text
AnswersSlice command can_fail bytes held holds (Err (BadLine number)) =
    (text : List ℕ) × StopsAtLine command bytes number text × Appends held holds text
AnswersSlice command can_fail bytes held holds (Err Input) = ⊥
AnswersSlice command can_fail bytes held holds (Err Output) = can_fail

-- ---- claims about each outcome

-- a claim for a fault that names a bad line; nothing is claimed of other faults
abbrev pub OnBadLine : ToolFault → (ℕ → Type 0) → Type 0
OnBadLine (BadLine number) P = P number
OnBadLine Input P = ⊤
OnBadLine Output P = ⊤

-- the stream that has failed
abbrev pub stream_of : ToolFault → Option Stream
stream_of (BadLine number) = None
stream_of Input = Some streams.Input
stream_of Output = Some streams.Output

-- a claim for a fault of the reader
abbrev pub OnInput : ToolFault → Type 0 → Type 0
OnInput fault P = OnStream (stream_of fault) P ⊤

-- a claim for a fault of the reader, and one for a fault of the writer
abbrev pub OnStreamFault : ToolFault → Type 0 → Type 0 → Type 0
OnStreamFault fault P Q = OnStream (stream_of fault) P Q

-- a claim for a run that answered all lines, or stopped at a bad one
abbrev pub IfSettled : Result Verdict ToolFault → Type 0 → Type 0
IfSettled (Ok verdict) P = P
IfSettled (Err fault) P = IfNoStream (stream_of fault) P
