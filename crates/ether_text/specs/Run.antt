-- What a run has read and written, whatever units its input has: a relation says which text is for which bytes.
use Rattle.std.specs.Prelude.{◌≡◌, ℕ, ◌≤◌, ◌-◌, ◌^◌, List, ◌++◌, length, Bool, Option, Some, None, IfSome, ⊤}
use Rattle.std.specs.Io.KnownBytes.{Appends, Consumes, IsAtEnd}
use Rattle.ether_text.specs.Verdict.{verdict_of}
use Rattle.ether_text.specs.declared.verdict.Verdict.{Verdict}

-- Between `before` and `after` the reader gave all its bytes, and the writer took the text for them. `all` says whether
-- each unit is accepted.
pub record AnswersAll (Answers : (input text : List ℕ) → (all : Bool) → Type 0)
    (before after held holds : Option (List ℕ)) (verdict : Verdict)
    : Type 0 where
  pub input : List ℕ
  pub text : List ℕ
  pub all_accepted : Bool
  pub read : Consumes before after input
  pub at_end : IsAtEnd after
  pub answered : Answers input text all_accepted
  pub is_verdict : verdict ≡ verdict_of all_accepted
  pub written : Appends held holds text

-- these are the bytes that a reader has left, if they are known
abbrev pub IsLeft : Option (List ℕ) → List ℕ → Type 0
IsLeft after bytes = IfSome after (λ known. bytes ≡ known)

-- Between `before` and `after` the reader gave some of its bytes. The run stops in these and those that are left, and
-- the writer took the text for what precedes the stop.
pub record StopsIn (Stops : (input text : List ℕ) → Type 0) (before after held holds : Option (List ℕ)) : Type 0 where
  pub taken : List ℕ
  pub left : List ℕ
  pub text : List ℕ
  pub read : Consumes before after taken
  pub is_left : IsLeft after left
  pub stops : Stops (taken ++ left) text
  pub written : Appends held holds text

-- Between `before` and `after` the reader gave some of its bytes, and the writer took the text for the units that end
-- in them.
pub record BreaksOffAfter (Begins : (taken text : List ℕ) → Type 0) (before after held holds : Option (List ℕ)) : Type 0
  where
    pub taken : List ℕ
    pub text : List ℕ
    pub read : Consumes before after taken
    pub begins : Begins taken text
    pub written : Appends held holds text

-- between `before` and `after` the reader gave at least as many bytes as a run may have reads
pub record IsEndless (before after : Option (List ℕ)) : Type 0 where
  pub taken : List ℕ
  pub read : Consumes before after taken
  pub long : 2 ^ 64 - 1 ≤ length taken

-- ---- claims about a fault

-- a stream that may fail
pub data Stream : Type 0 where
  Input : Stream
  Output : Stream

-- a claim for a fault of the reader, and one for a fault of the writer
abbrev pub OnStream : Option Stream → (input output : Type 0) → Type 0
OnStream None P Q = ⊤
OnStream (Some Input) P Q = P
OnStream (Some Output) P Q = Q

-- a claim for a fault of neither stream
abbrev pub IfNoStream : Option Stream → Type 0 → Type 0
IfNoStream None P = P
IfNoStream (Some stream) P = ⊤
