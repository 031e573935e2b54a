-- The state of a run between two reads.
use Rattle.std.specs.Prelude.{◌≡◌, ℕ, ◌-◌, ◌^◌, min, List, [], ◌∷◌, ◌++◌, length, Bool, Option}
use Rattle.std.specs.Str.Lines.{lines}
use Rattle.std.specs.Io.KnownBytes.{Appends}
use Rattle.ether_output.specs.OutputBuffer.{contents_of}
use Rattle.ether_text.specs.Tool.Run.{HasNoLineFeed, IsLineAnswered, AreAnswered, StopsAtLine, number_after}
use Rattle.ether_text.specs.Tool.Frame.{IsBadLine}
use Rattle.ether_text.specs.Tool.LineBuffer.{KeepsLine, without_end}
use Rattle.ether_text.specs.declared.tool.command.Command.{Command}
use Rattle.ether_text.specs.Verdict.{verdict_of, verdict_with}
use Rattle.ether_text.specs.declared.verdict.Verdict.{Verdict}
use Rattle.ether_text.specs.declared.verdict.Verdict.TheVariants.{AllAccepted}
use Rattle.ether_output.specs.declared.output_buffer.OutputBuffer.{OutputBuffer}
use Rattle.ether_text.specs.declared.tool.line_buffer.LineEnd.{LineEnd}
use Rattle.ether_text.specs.declared.tool.line_loop.LineLoop.{LineLoop}

-- the bytes are those before their first LF, the LF, and those after it
pub record SplitsAtLineFeed (bytes before after : List ℕ) : Type 0 where
  pub in_line : HasNoLineFeed before
  pub parts : bytes ≡ before ++ 10 ∷ after

-- The lines that ended in the input so far are answered, and the rest of the input is the line that is being read.
pub record Reached {W : Type 0} (command : Command) (contents : W → Option (List ℕ)) (held : Option (List ℕ))
    (input : List ℕ) (at : LineLoop) (out : OutputBuffer W) : Type 0 where
  pub done : List (List ℕ)
  pub line : List ℕ
  pub text : List ℕ
  pub all_accepted : Bool
  pub parts : (rest : List ℕ) → lines (input ++ rest) ≡ done ++ lines (line ++ rest)
  pub in_line : HasNoLineFeed line
  pub answered : AreAnswered command done text all_accepted
  pub is_verdict : at.verdict ≡ verdict_of all_accepted
  pub is_count : at.count ≡ min (length done) (2 ^ 64 - 1)
  pub kept : KeepsLine at.line line
  pub written : Appends held (contents_of contents out) text

-- the line is answered, and the next begins
pub record JudgesLine {W : Type 0} (command : Command) (contents : W → Option (List ℕ)) (line : List ℕ) (old : LineLoop)
    (from : OutputBuffer W) (new : LineLoop) (to : OutputBuffer W) : Type 0 where
  pub text : List ℕ
  pub accepted : Bool
  pub answered : IsLineAnswered command line text accepted
  pub written : Appends (contents_of contents from) (contents_of contents to) text
  pub is_verdict : new.verdict ≡ verdict_with old.verdict accepted
  pub is_count : new.count ≡ number_after old.count
  pub begins : KeepsLine new.line []

-- the line that was being read and its last piece are a bad line, and nothing is written for it
pub record RefusesLine {W : Type 0} (piece : List ℕ) (end : LineEnd) (old : LineLoop) (from to : OutputBuffer W)
    (number : ℕ) : Type 0 where
  pub is_bad : (line : List ℕ) → KeepsLine old.line line → IsBadLine (without_end end (line ++ piece))
  pub is_number : number ≡ number_after old.count
  pub same : to ≡ from

-- the run has answered the lines that end in these bytes, and keeps the rest of them
pub record Advances {W : Type 0} (command : Command) (contents : W → Option (List ℕ)) (old : LineLoop)
    (from : OutputBuffer W) (bytes : List ℕ) (new : LineLoop) (to : OutputBuffer W) : Type 0 where
  pub reached : (held : Option (List ℕ)) (input : List ℕ) → Reached command contents held input old from
      → Reached command contents held (input ++ bytes) new to

-- a bad line ends in these bytes, whatever follows them
pub record StopsWithin {W : Type 0} (command : Command) (contents : W → Option (List ℕ)) (old : LineLoop)
    (from : OutputBuffer W) (bytes later : List ℕ) (to : OutputBuffer W) (number : ℕ) : Type 0 where
  pub stops : (held : Option (List ℕ)) (input : List ℕ) → Reached command contents held input old from
      → (text : List ℕ) × Appends held (contents_of contents to) text
      × StopsAtLine command ((input ++ bytes) ++ later) number text

-- all the lines of the input are answered
pub record Finishes {W : Type 0} (command : Command) (contents : W → Option (List ℕ)) (old : LineLoop)
    (from to : OutputBuffer W) (verdict : Verdict) : Type 0 where
  pub answered : (held : Option (List ℕ)) (input : List ℕ) → Reached command contents held input old from
      → (text : List ℕ) × (all_accepted : Bool) × Appends held (contents_of contents to) text
      × AreAnswered command (lines input) text all_accepted × (verdict ≡ verdict_of all_accepted)

-- nothing was read yet
pub record IsStart (at : LineLoop) : Type 0 where
  pub is_count : at.count ≡ 0
  pub is_verdict : at.verdict ≡ AllAccepted
  pub begins : KeepsLine at.line []
