-- Runs, whatever units their inputs have.
use Rattle.std.proofs.Common.{false, ◌⊎◌, ◌-◌, ◌^◌, ◌≡◌, inl, inr, ℕ, ◌<◌, List, [], ◌++◌, length, Bool, true, Option, Some, None, unwrap_or, Result, Ok, Err, IfErr, refl, sym, ap, subst, ◌∙◌, arith, append-nil, length-append}
use Rattle.std.specs.Prelude.{⊤}
use Rattle.std.specs.Io.KnownBytes.{Appends, Consumes, IsAtEnd, append_known}
use Rattle.ether_text.specs.InputReader.{StopsReading, was_stopped, stopped as stopped_by, used_up}
use Rattle.ether_output.specs.OutputBuffer.{contents_of, Marks, WritesOut}
use Rattle.ether_text.specs.Run.{AnswersAll, IsLeft, StopsIn, BreaksOffAfter, IsEndless, Stream, Input, Output, OnStream}
use Rattle.ether_text.specs.Verdict.{verdict_of}
use Rattle.ether_text.specs.declared.input_reader.InputReader.{InputReader}
use Rattle.ether_output.specs.declared.output_buffer.OutputBuffer.{OutputBuffer}
use Rattle.ether_text.specs.declared.verdict.Verdict.{Verdict}
use Rattle.ether_output.proofs.KnownBytesLemmas.{Appends-written_out, append_known_nil, Consumes-then}

-- ---- what is left

-- what a reader has left, or nothing if that is unknown
pub IsLeft-left_of : (after : Option (List ℕ)) → IsLeft after (unwrap_or after [])
IsLeft-left_of None = tt
IsLeft-left_of (Some bytes) = refl

pub IsLeft-end : (after : Option (List ℕ)) → IsAtEnd after → IsLeft after []
IsLeft-end None h = tt
IsLeft-end (Some bytes) h = sym h

-- the last read gave nothing
pub Consumes-nothing : (before mid after : Option (List ℕ)) (input nothing : List ℕ) → Consumes before mid input
    → Consumes mid after nothing → nothing ≡ [] → Consumes before after input
Consumes-nothing before mid after input nothing h k none =
    subst (λ (bytes : List ℕ). Consumes before after bytes) (append-nil input)
    (subst (λ (bytes : List ℕ). Consumes before after (input ++ bytes)) none
    (Consumes-then before mid after input nothing h k))

-- ---- the closing flush

appends_flushed : (held old new : Option (List ℕ)) (waited text : List ℕ) → Appends held (append_known old waited) text
    → Appends old new waited → Appends held new text
appends_flushed held old new waited text h k =
    subst (λ (o : Option (List ℕ)). Appends held o text) (append_known_nil new)
    (Appends-written_out held old new waited [] text h k refl)

module _ {W : Type 0} (contents : W → Option (List ℕ)) (before after held : Option (List ℕ)) (from to : OutputBuffer W)
    (drains : WritesOut contents from to) where
  flushed : (text : List ℕ) → Appends held (contents_of contents from) text → Appends held (contents to.writer.now) text
  flushed text h =
      appends_flushed held (contents from.writer.now) (contents to.writer.now) from.waiting.items text h drains.written

  pub answers_flushed : {Answers : (input text : List ℕ) → (all : Bool) → Type 0} (verdict : Verdict)
      → AnswersAll Answers before after held (contents_of contents from) verdict
      → AnswersAll Answers before after held (contents to.writer.now) verdict
  answers_flushed verdict h = record {
    input = h.input;
    text = h.text;
    all_accepted = h.all_accepted;
    read = h.read;
    at_end = h.at_end;
    answered = h.answered;
    is_verdict = h.is_verdict;
    written = flushed h.text h.written;
  }

  pub stops_flushed : {Stops : (input text : List ℕ) → Type 0}
      → StopsIn Stops before after held (contents_of contents from)
      → StopsIn Stops before after held (contents to.writer.now)
  stops_flushed h = record {
    taken = h.taken;
    left = h.left;
    text = h.text;
    read = h.read;
    is_left = h.is_left;
    stops = h.stops;
    written = flushed h.text h.written;
  }

  pub breaks_flushed : {Begins : (taken text : List ℕ) → Type 0}
      → BreaksOffAfter Begins before after held (contents_of contents from)
      → BreaksOffAfter Begins before after held (contents to.writer.now)
  breaks_flushed h = record {
    taken = h.taken;
    text = h.text;
    read = h.read;
    begins = h.begins;
    written = flushed h.text h.written;
  }

-- ---- when a stream has failed

never_marked : {P : Type 0} (old new : Bool) → old ≡ false → (new ≡ true → (old ≡ true) ⊎ P) → new ≡ true → P
never_marked old new fresh marks set =
    elim (marks set) [ inl before ↦ let e : true ≡ false = sym before ∙ fresh in absurd (cc) | inr failed ↦ failed ]

on_reader : (stream : Option Stream) (Q : Type 0) → Q → OnStream stream Q ⊤
on_reader None Q h = tt
on_reader (Some Input) Q h = h
on_reader (Some Output) Q h = tt

no_reader : (stream : Option Stream) (P Q : Type 0) → OnStream stream ⊥ P → OnStream stream Q ⊤
no_reader None P Q h = tt
no_reader (Some Input) P Q h = absurd h
no_reader (Some Output) P Q h = tt

module _ {F : Type 0} (stream_of : F → Option Stream) where
  -- what holds of each fault of the reader
  pub on_input : (r : Result Verdict F) (Q : Type 0) → Q → IfErr r (λ fault. OnStream (stream_of fault) Q ⊤)
  on_input (Ok verdict) Q h = tt
  on_input (Err fault) Q h = on_reader (stream_of fault) Q h

  -- no fault of the reader
  pub no_input : (r : Result Verdict F) (P Q : Type 0) → IfErr r (λ fault. OnStream (stream_of fault) ⊥ P)
      → IfErr r (λ fault. OnStream (stream_of fault) Q ⊤)
  no_input (Ok verdict) P Q h = tt
  no_input (Err fault) P Q h = no_reader (stream_of fault) P Q h

  -- why a run with fresh streams ends with a fault of one of them
  module _ {R W : Type 0} (remaining : R → Option (List ℕ)) (can_read can_write : Type 0) (input input' : InputReader R)
      (out out' : OutputBuffer W) (before after : Option (List ℕ)) (from : remaining input.inner.now ≡ before)
      (to : remaining input'.inner.now ≡ after) (fresh : input.has_failed ≡ false)
      (most : input.reads_left ≡ 2 ^ 64 - 1) (none : out.has_failed ≡ false) where
    why : StopsReading remaining can_read input input' → can_read ⊎ IsEndless before after
    why (was_stopped set) = let e : true ≡ false = sym set ∙ fresh in absurd (cc)
    why (stopped_by failed) = inl failed
    why (used_up taken read counted) = inr (record {
      taken = taken;
      read =
          subst (λ (o : Option (List ℕ)). Consumes o after taken) from
          (subst (λ (o : Option (List ℕ)). Consumes (remaining input.inner.now) o taken) to read);
      long = omega (arith, most, counted);
    })

    fails : (stream : Option Stream) → OnStream stream (input'.has_failed ≡ true) (out'.has_failed ≡ true)
        → OnStream stream (StopsReading remaining can_read input input') ⊤ → Marks can_write out out'
        → OnStream stream (can_read ⊎ IsEndless before after) can_write
    fails None failed cause marks = tt
    fails (Some Input) failed cause marks = why cause
    fails (Some Output) failed cause marks = never_marked out.has_failed out'.has_failed none marks.cause failed

    pub run_fails : (r : Result Verdict F)
        → IfErr r (λ fault. OnStream (stream_of fault) (input'.has_failed ≡ true) (out'.has_failed ≡ true))
        → IfErr r (λ fault. OnStream (stream_of fault) (StopsReading remaining can_read input input') ⊤)
        → Marks can_write out out'
        → IfErr r (λ fault. OnStream (stream_of fault) (can_read ⊎ IsEndless before after) can_write)
    run_fails (Ok verdict) failed cause marks = tt
    run_fails (Err fault) failed cause marks = fails (stream_of fault) failed cause marks

-- ---- a run over a slice

whole_slice : (bytes input : List ℕ) (after : Option (List ℕ)) → Consumes (Some bytes) after input → IsAtEnd after
    → input ≡ bytes
whole_slice bytes input None read end = absurd read
whole_slice bytes input (Some left) read end = sym (read ∙ ap (λ (l : List ℕ). input ++ l) end ∙ append-nil input)

parts_of_slice : (bytes taken left : List ℕ) (after : Option (List ℕ)) → Consumes (Some bytes) after taken
    → IsLeft after left → taken ++ left ≡ bytes
parts_of_slice bytes taken left None read is = absurd read
parts_of_slice bytes taken left (Some known) read is = ap (λ (l : List ℕ). taken ++ l) is ∙ sym read

pub answers_slice : (Answers : (input text : List ℕ) → (all : Bool) → Type 0) (bytes : List ℕ)
    (after held holds : Option (List ℕ)) (verdict : Verdict) → AnswersAll Answers (Some bytes) after held holds verdict
    → (text : List ℕ) × (all : Bool) × Answers bytes text all × (verdict ≡ verdict_of all) × Appends held holds text
answers_slice Answers bytes after held holds verdict h = (
  h.text,
  h.all_accepted,
  subst (λ (l : List ℕ). Answers l h.text h.all_accepted) (whole_slice bytes h.input after h.read h.at_end) h.answered,
  h.is_verdict,
  h.written,
)

pub stops_slice : (Stops : (input text : List ℕ) → Type 0) (bytes : List ℕ) (after held holds : Option (List ℕ))
    → StopsIn Stops (Some bytes) after held holds → (text : List ℕ) × Stops bytes text × Appends held holds text
stops_slice Stops bytes after held holds h = (
  h.text,
  subst (λ (l : List ℕ). Stops l h.text) (parts_of_slice bytes h.taken h.left after h.read h.is_left) h.stops,
  h.written,
)

-- a part of it
pub breaks_slice : (Begins : (taken text : List ℕ) → Type 0) (bytes : List ℕ) (after held holds : Option (List ℕ))
    → BreaksOffAfter Begins (Some bytes) after held holds
    → (taken left text : List ℕ) × (bytes ≡ taken ++ left) × Begins taken text × Appends held holds text
breaks_slice Begins bytes None held holds h = absurd h.read
breaks_slice Begins bytes (Some left) held holds h = (h.taken, left, h.text, h.read, h.begins, h.written)

not_endless : (bytes : List ℕ) (after : Option (List ℕ)) → length bytes < 2 ^ 64 - 1 → IsEndless (Some bytes) after → ⊥
not_endless bytes None short endless = absurd endless.read
not_endless bytes (Some left) short endless =
    let n = ap length endless.read ∙ length-append endless.taken left in
    let long = endless.long in
    omega (arith, n, long, short)

-- reading it does not fail
pub no_endless_slice : (bytes : List ℕ) (after : Option (List ℕ)) → length bytes < 2 ^ 64 - 1
    → ⊥ ⊎ IsEndless (Some bytes) after → ⊥
no_endless_slice bytes after short (inl never) = never
no_endless_slice bytes after short (inr endless) = not_endless bytes after short endless
