-- What a run of the program makes of its input.
use Rattle.std.specs.Prelude.{◌≡◌, ℕ, List, [], ◌∷◌, ◌++◌, map, Bool, true, false, All, ◌≢◌, None, Option, Some, IfSome, Ok, if◌then◌else◌}
use Rattle.std.specs.Io.KnownBytes.{Appends, Consumes, IsAtEnd}
use Rattle.std.specs.Io.{StopsAt}
use Rattle.ether_make.specs.Captures.{Grows}
use Rattle.ether_make.specs.Frames.{FrameValue}
use Rattle.ether_make.specs.Lines.{LineMeans, LineRefusal, LinesMean, Progress, Refuses, after, frames_of, is_blank, is_counted, is_timely, lines_in}
use Rattle.ether_make.specs.Templates.{TemplateValue}
use Rattle.ether_make.specs.LineViews.{IfTold, fault_view}
use Rattle.ether_make.specs.Outputs.{IsBegunAs, IsOutput, IsOutputBegun, finished}
use Rattle.ether_make.specs.declared.settings.Settings.{Settings}
use Rattle.ether_make.specs.declared.lines.Stop.{Stop}
use Rattle.ether_make.specs.declared.program.RunFault.{RunFault}
use Rattle.ether_make.specs.declared.program.RunFault.TheVariants.{Input, Line, Output}

-- ---- a run

-- Lines that leave `last` have frames whose output continues that of frames before them. `first` is what is left by the
-- lines before, and `next` what is left by these.
pub record Continues (settings : Settings) (first next last : Progress) (frames : List FrameValue) (bytes : List ℕ)
    : Type 0 where
  pub is_last : next ≡ last
  pub begun : (earlier : List FrameValue) (front : List ℕ) → IsOutputBegun settings first.link earlier front
      → IsOutputBegun settings next.link (earlier ++ frames) (front ++ bytes)

-- the output of frames, whatever their lines leave
abbrev pub IsWhole : Settings → (last : Progress) → (frames : List FrameValue) → (bytes : List ℕ) → Type 0
IsWhole settings last frames bytes = IsOutput settings frames bytes

-- The reader gave lines, and after them a part of a line that is not made. These lines mean frames after what other
-- lines left, to their end or to the line that is refused, and the writer took bytes that are these frames.
pub record Ran (settings : Settings) (first : Progress) (IsWritten : Progress → List FrameValue → List ℕ → Type 0)
    (before after held holds : Option (List ℕ)) (stop : Option (ℕ × LineRefusal)) (part : List ℕ) : Type 0 where
  pub text : List ℕ
  pub frames : List FrameValue
  pub last : Progress
  pub bytes : List ℕ
  pub read : Consumes before after (text ++ part)
  pub means : LinesMean settings 1 first last (lines_in text) frames stop
  pub is_written : IsWritten last frames bytes
  pub written : Appends held holds bytes

-- the reader is at its end, and the writer took the frames of all lines
pub record HasMade (settings : Settings) (first : Progress) (IsWritten : Progress → List FrameValue → List ℕ → Type 0)
    (before after held holds : Option (List ℕ)) : Type 0 where
  pub ran : Ran settings first IsWritten before after held holds None []
  pub at_end : IfSome before (λ xs. IsAtEnd after)

-- the run ended in the middle of a line, and the writer took the frames of all lines before it
pub record HasBroken (settings : Settings) (first : Progress)
    (IsWritten : Progress → List FrameValue → List ℕ → Type 0) (before after held holds : Option (List ℕ))
    : Type 0 where
  pub part : List ℕ
  pub one_line : StopsAt part 10
  pub ran : Ran settings first IsWritten before after held holds None part

-- the run ended at this line, since it is refused, or since there was no memory
abbrev pub AfterLine : Settings → (first : Progress)
    → (IsWritten : Progress → List FrameValue → List ℕ → Type 0) → (before after held holds : Option (List ℕ))
    → (line : ℕ) → Option LineRefusal → Type 0
AfterLine settings first IsWritten before after held holds line None =
    HasBroken settings first IsWritten before after held holds
AfterLine settings first IsWritten before after held holds line (Some r) =
    Ran settings first IsWritten before after held holds (Some (line, r)) []

-- what is known after a fault; of one that the writer had nothing
abbrev pub AfterFault : Settings → (first : Progress)
    → (IsWritten : Progress → List FrameValue → List ℕ → Type 0) → (before after held holds : Option (List ℕ))
    → RunFault → Type 0
AfterFault settings first IsWritten before after held holds (Line stop) =
    AfterLine settings first IsWritten before after held holds stop.line (fault_view stop.fault)
AfterFault settings first IsWritten before after held holds (Input error) =
    HasBroken settings first IsWritten before after held holds
AfterFault settings first IsWritten before after held holds (Output error) = Unit {0}

-- ---- a line of it

abbrev pub line_end : (is_ended : Bool) → List ℕ
line_end is_ended = if is_ended then 10 ∷ [] else []

-- a line was read, with the line feed (10) at its end if that is there
pub record ReadsLine (before after : Option (List ℕ)) (line : List ℕ) (is_ended : Bool) : Type 0 where
  pub read : Consumes before after (line ++ line_end is_ended)
  pub one_line : All (λ c. c ≢ 10) line
  pub at_end : is_ended ≡ false → IfSome before (λ xs. IsAtEnd after)

pub record BreaksLine (before after : Option (List ℕ)) (line : List ℕ) : Type 0 where
  pub read : Consumes before after line
  pub one_line : StopsAt line 10

-- the writer failed
abbrev pub IsOutputFault : RunFault → Type 0
IsOutputFault (Line stop) = ⊥
IsOutputFault (Input error) = ⊥
IsOutputFault (Output error) = Unit {0}

-- what is known after a fault before a line or in it; of one that the writer had nothing
abbrev pub AfterReading : (before after : Option (List ℕ)) → (line : List ℕ) → RunFault → Type 0
AfterReading before after line (Line stop) = ⊥
AfterReading before after line (Input error) = BreaksLine before after line
AfterReading before after line (Output error) = Unit {0}

-- a writer takes the frames of a line, or nothing of a blank one
pub data TakesLine (settings : Settings) (text : List ℕ) (held holds : Option (List ℕ))
    : (progress next : Progress) → Type 0 where
  blank : (progress : Progress) → is_blank text ≡ true → Appends held holds []
      → TakesLine settings text held holds progress progress
  some : (progress : Progress) (t : TemplateValue) → is_blank text ≡ false → LineMeans progress.link text (Ok t)
      → is_counted settings t ≡ true → is_timely settings progress t ≡ true
      → Grows (IsBegunAs settings.form settings.fcs) progress.link (after settings progress t).link
      (map (finished settings) (frames_of settings progress t)) held holds
      → TakesLine settings text held holds progress (after settings progress t)

-- a line is refused, or there is no memory, and nothing is written
pub record RefusesLine (settings : Settings) (number : ℕ) (text : List ℕ) (held holds : Option (List ℕ))
    (progress next : Progress) (stop : Stop) : Type 0 where
  pub line : stop.line ≡ number
  pub same : next ≡ progress
  pub some : is_blank text ≡ false
  pub means : IfTold (λ r. Refuses settings progress text r) (fault_view stop.fault)
  pub unwritten : Appends held holds []

abbrev pub AfterTaking : Settings → (number : ℕ) → (text : List ℕ) → (held holds : Option (List ℕ))
    → (progress next : Progress) → RunFault → Type 0
AfterTaking settings number text held holds progress next (Line stop) =
    RefusesLine settings number text held holds progress next stop
AfterTaking settings number text held holds progress next (Input error) = ⊥
AfterTaking settings number text held holds progress next (Output error) = Unit {0}
