-- What a run makes of the lines of files.
use Rattle.std.specs.Prelude.{◌≡◌, ℕ, List, [], ◌∷◌, ◌++◌, codes, true, false, Option, Some, None, IfSome, if◌then◌else◌}
use Rattle.std.specs.Io.KnownBytes.{Appends, Consumes, IsAtEnd}
use Rattle.std.specs.Option.{option_map}
use Rattle.std.specs.Str.{bytes_eq}
use Rattle.std.specs.declared.io.Error.{Error}
use Rattle.ether_make.specs.Frames.{FrameValue}
use Rattle.ether_make.specs.Lines.{LinesMean, Progress, beginning, lines_in}
use Rattle.ether_make.specs.Outputs.{IsOutput}
use Rattle.ether_make.specs.Program.{AfterFault, Continues}
use Rattle.ether_make.specs.declared.input_files.FileFault.{FileFault}
use Rattle.ether_make.specs.declared.program.RunFault.{RunFault}
use Rattle.ether_make.specs.declared.program.RunFault.TheVariants.{Input, Output}
use Rattle.ether_make.specs.declared.settings.Settings.{Settings}

-- `Has name bytes` says that a file of this name has these bytes, where they are known. The name `-` is that of
-- standard input, which has bytes before and after.

-- the names of files, or that of standard input if there are none
abbrev pub named_or_input : List (List ℕ) → List (List ℕ)
named_or_input [] = codes "-" ∷ []
named_or_input (name ∷ names) = name ∷ names

-- A reader is at its end, and its lines mean frames. `first` is what is left by the lines before, and `next` what is
-- left by these.
pub record IsRead (settings : Settings) (first next : Progress) (before after : Option (List ℕ))
    (frames : List FrameValue) : Type 0 where
  pub text : List ℕ
  pub read : Consumes before after text
  pub at_end : IfSome before (λ xs. IsAtEnd after)
  pub means : LinesMean settings 1 first next (lines_in text) frames None

-- files are read, one after the other
pub data AreRead (Has : List ℕ → Option (List ℕ) → Type 0) (settings : Settings)
    : (first last : Progress) → (names : List (List ℕ)) → (before after : Option (List ℕ))
    → (frames : List FrameValue) → Type 0 where
  none : (progress : Progress) (bytes : Option (List ℕ)) → AreRead Has settings progress progress [] bytes bytes []
  input : (first next last : Progress) (name : List ℕ) (names : List (List ℕ)) (before mid after : Option (List ℕ))
      (frames later : List FrameValue) → bytes_eq name (codes "-") ≡ true
      → IsRead settings first next before mid frames → AreRead Has settings next last names mid after later
      → AreRead Has settings first last (name ∷ names) before after (frames ++ later)
  file : (first next last : Progress) (name : List ℕ) (names : List (List ℕ))
      (known rest before after : Option (List ℕ)) (frames later : List FrameValue)
      → bytes_eq name (codes "-") ≡ false → Has name known → IsRead settings first next known rest frames
      → AreRead Has settings next last names before after later
      → AreRead Has settings first last (name ∷ names) before after (frames ++ later)

-- files are read, one after the other, and the writer took the frames of all their lines
pub record HasMadeFiles (Has : List ℕ → Option (List ℕ) → Type 0) (settings : Settings)
    (IsWritten : Progress → List FrameValue → List ℕ → Type 0) (first : Progress) (names : List (List ℕ))
    (before after held holds : Option (List ℕ)) : Type 0 where
  pub frames : List FrameValue
  pub last : Progress
  pub bytes : List ℕ
  pub are_read : AreRead Has settings first last names before after frames
  pub is_written : IsWritten last frames bytes
  pub written : Appends held holds bytes

-- the run over a file ended by a fault: in its lines, or since it can't be opened
pub data StopsAtFile (Has : List ℕ → Option (List ℕ) → Type 0) (settings : Settings)
    (IsWritten : Progress → List FrameValue → List ℕ → Type 0) (first : Progress) (name : List ℕ)
    (held holds : Option (List ℕ)) : (before after : Option (List ℕ)) → RunFault → Type 0 where
  input : (before after : Option (List ℕ)) (fault : RunFault) → bytes_eq name (codes "-") ≡ true
      → AfterFault settings first IsWritten before after held holds fault
      → StopsAtFile Has settings IsWritten first name held holds before after fault
  file : (known rest bytes : Option (List ℕ)) (fault : RunFault) → bytes_eq name (codes "-") ≡ false → Has name known
      → AfterFault settings first IsWritten known rest held holds fault
      → StopsAtFile Has settings IsWritten first name held holds bytes bytes fault
  closed : (bytes : Option (List ℕ)) (error : Error) (written : List ℕ) → bytes_eq name (codes "-") ≡ false
      → IsWritten first [] written → Appends held holds written
      → StopsAtFile Has settings IsWritten first name held holds bytes bytes (Input error)

-- .. which the fault names
pub record StopsNamed (Has : List ℕ → Option (List ℕ) → Type 0) (settings : Settings)
    (IsWritten : Progress → List FrameValue → List ℕ → Type 0) (first : Progress) (name : List ℕ)
    (before after held holds : Option (List ℕ)) (f : FileFault) : Type 0 where
  pub named : option_map (λ s. s.now) f.file ≡ (if bytes_eq name (codes "-") then None else Some name)
  pub stops : StopsAtFile Has settings IsWritten first name held holds before after f.fault

-- the run ended by a fault in one of these files; those before it are read, and the writer took their frames
pub record StopsFiles (Has : List ℕ → Option (List ℕ) → Type 0) (settings : Settings) (first last : Progress)
    (names : List (List ℕ)) (before after held holds : Option (List ℕ)) (f : FileFault) : Type 0 where
  pub earlier : List (List ℕ)
  pub name : List ℕ
  pub later : List (List ℕ)
  pub split : names ≡ earlier ++ name ∷ later
  pub mid : Option (List ℕ)
  pub taken : Option (List ℕ)
  pub next : Progress
  pub done : HasMadeFiles Has settings (Continues settings first next) first earlier before mid held taken
  pub stops : StopsNamed Has settings (Continues settings next last) next name mid after taken holds f

-- the run ended by a fault in one of these files, and its output has the frames of all lines before the fault
pub record StopsRun (Has : List ℕ → Option (List ℕ) → Type 0) (settings : Settings) (names : List (List ℕ))
    (before after held holds : Option (List ℕ)) (f : FileFault) : Type 0 where
  pub earlier : List (List ℕ)
  pub name : List ℕ
  pub later : List (List ℕ)
  pub split : names ≡ earlier ++ name ∷ later
  pub mid : Option (List ℕ)
  pub taken : Option (List ℕ)
  pub next : Progress
  pub frames : List FrameValue
  pub bytes : List ℕ
  pub are_read : AreRead Has settings (beginning settings.seed) next earlier before mid frames
  pub written : Appends held taken bytes
  pub stops : StopsNamed Has settings (λ last fs bs. IsOutput settings (frames ++ fs) (bytes ++ bs)) next name
      mid after taken holds f

-- nothing is said of a writer that failed
abbrev pub UnlessOutput : RunFault → Type 0 → Type 0
UnlessOutput (Output error) P = Unit {0}
UnlessOutput fault P = P
