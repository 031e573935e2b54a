-- How far a run has come, one piece of the input after another.
use Rattle.std.proofs.Common.{◌≡◌, ℕ, ◌==◌, List, [], ◌∷◌, ◌++◌, length, Bool, true, false, ◌&&◌, Option, refl, sym, ap, ◌∙◌, subst, arith, append_assoc, append-nil}
use Rattle.std.proofs.Math.Bool.{and_assoc}
use Rattle.std.proofs.lemmas.List.{length-append}
use Rattle.std.specs.Str.Lines.{lines, strip_carriage_return}
use Rattle.std.specs.Io.KnownBytes.{Appends}
use Rattle.ether_output.specs.OutputBuffer.{contents_of, WritesOut}
use Rattle.ether_text.specs.Tool.Run.{HasNoLineFeed, IsLineAnswered, AreAnswered, StopsAtLine, OnBadLine}
use Rattle.ether_text.specs.Tool.Frame.{IsBadLine}
use Rattle.ether_text.specs.Tool.LineBuffer.{KeepsLine, without_end}
use Rattle.ether_text.specs.Tool.LineLoop.{Reached, JudgesLine, RefusesLine, Advances, StopsWithin, Finishes, IsStart}
use Rattle.ether_text.specs.declared.tool.command.Command.{Command}
use Rattle.ether_text.specs.Verdict.{verdict_of, verdict_with}
use Rattle.ether_text.specs.declared.verdict.Verdict.{Verdict}
use Rattle.ether_text.specs.declared.tool.outcome.ToolFault.{ToolFault}
use Rattle.ether_text.specs.declared.tool.outcome.ToolFault.TheVariants.{BadLine, Input, Output}
use Rattle.ether_output.specs.declared.output_buffer.OutputBuffer.{OutputBuffer}
use Rattle.ether_text.specs.declared.tool.line_buffer.LineEnd.TheVariants.{LineFeed, InputEnd}
use Rattle.ether_text.specs.declared.tool.line_loop.LineLoop.{LineLoop}
use Rattle.ether_output.proofs.KnownBytesLemmas.{Appends-none, Appends-then}
use Rattle.ether_output.proofs.KnownBytesLemmas.{Appends-written_out}
use Rattle.ether_text.proofs.tool.InputLinesLemmas.{lines-line, lines-last, lines-nothing, HasNoLineFeed-nil, HasNoLineFeed-append}

-- what is said of a bad line, from another fact
pub OnBadLine-map : (fault : ToolFault) (P Q : ℕ → Type 0) → ((number : ℕ) → P number → Q number) → OnBadLine fault P
    → OnBadLine fault Q
OnBadLine-map (BadLine number) P Q more h = more number h
OnBadLine-map Input P Q more h = tt
OnBadLine-map Output P Q more h = tt

and_true : (b : Bool) → (true && b) ≡ (b && true)
and_true true = refl
and_true false = refl

-- one answered line more
pub AreAnswered-push : (command : Command) (done : List (List ℕ)) (text : List ℕ) (all : Bool) (line more : List ℕ)
    (accepted : Bool)
    → AreAnswered command done text all → IsLineAnswered command line more accepted
    → AreAnswered command (done ++ line ∷ []) (text ++ more) (all && accepted)
AreAnswered-push command [] text all line more accepted so_far is = (
  more,
  accepted,
  [],
  true,
  is,
  (refl, refl),
  ap (λ (t : List ℕ). t ++ more) so_far.0 ∙ sym (append-nil more),
  ap (λ (b : Bool). b && accepted) so_far.1 ∙ and_true accepted,
)
AreAnswered-push command (first ∷ others) text all line more accepted so_far is =
    let (one, one_accepted, rest, others_accepted, here, there, whole, every) = so_far in (
      one,
      one_accepted,
      rest ++ more,
      others_accepted && accepted,
      here,
      AreAnswered-push command others rest others_accepted line more accepted there is,
      ap (λ (t : List ℕ). t ++ more) whole ∙ append_assoc one rest more,
      ap (λ (b : Bool). b && accepted) every ∙ and_assoc one_accepted others_accepted accepted,
    )

verdict_with-verdict_of : (all accepted : Bool) → verdict_with (verdict_of all) accepted ≡ verdict_of (all && accepted)
verdict_with-verdict_of true accepted = refl
verdict_with-verdict_of false accepted = refl

module _ {W : Type 0} (command : Command) (contents : W → Option (List ℕ)) where
  -- nothing is read
  pub Reached-start : (start : LineLoop) (out : OutputBuffer W) → IsStart start
      → Reached command contents (contents_of contents out) [] start out
  Reached-start start out is = record {
    done = [];
    line = [];
    text = [];
    all_accepted = true;
    parts = λ rest. refl;
    in_line = HasNoLineFeed-nil;
    answered = (refl, refl);
    is_verdict = is.is_verdict;
    is_count = is.is_count;
    kept = is.begins;
    written = Appends-none (contents_of contents out);
  }

  -- what waited is written out
  pub Reached-written_out : (held : Option (List ℕ)) (input : List ℕ) (at : LineLoop) (old new : OutputBuffer W)
      → WritesOut contents old new → Reached command contents held input at old
      → Reached command contents held input at new
  Reached-written_out held input at old new drains so_far = record {
    done = so_far.done;
    line = so_far.line;
    text = so_far.text;
    all_accepted = so_far.all_accepted;
    parts = so_far.parts;
    in_line = so_far.in_line;
    answered = so_far.answered;
    is_verdict = so_far.is_verdict;
    is_count = so_far.is_count;
    kept = so_far.kept;
    written =
        Appends-written_out held (contents old.writer.now) (contents new.writer.now) old.waiting.items new.waiting.items
        so_far.text so_far.written drains.written drains.none_waits;
  }

  -- no byte more
  pub Advances-none : (at : LineLoop) (out : OutputBuffer W) → Advances command contents at out [] at out
  Advances-none at out = record {
    reached =
        λ held input so_far.
        subst (λ (i : List ℕ). Reached command contents held i at out) (sym (append-nil input)) so_far;
  }

  pub Advances-then : (old mid new : LineLoop) (from between to : OutputBuffer W) (xs ys : List ℕ)
      → Advances command contents old from xs mid between → Advances command contents mid between ys new to
      → Advances command contents old from (xs ++ ys) new to
  Advances-then old mid new from between to xs ys first second = record {
    reached = λ held input so_far.
        subst (λ (i : List ℕ). Reached command contents held i new to) (append_assoc input xs ys)
        (second.reached held (input ++ xs) (first.reached held input so_far));
  }

  -- a piece of the line under way
  pub Advances-piece : (old new : LineLoop) (out : OutputBuffer W) (piece : List ℕ) → HasNoLineFeed piece
      → ((line : List ℕ) → KeepsLine old.line line → KeepsLine new.line (line ++ piece)) → new.count ≡ old.count
      → new.verdict ≡ old.verdict
      → Advances command contents old out piece new out
  Advances-piece old new out piece none keeps count verdict = record { reached = more }
    where
      more : (held : Option (List ℕ)) (input : List ℕ) → Reached command contents held input old out
          → Reached command contents held (input ++ piece) new out
      more held input so_far = record {
        done = so_far.done;
        line = so_far.line ++ piece;
        text = so_far.text;
        all_accepted = so_far.all_accepted;
        parts = λ rest.
            ap lines (append_assoc input piece rest) ∙ so_far.parts (piece ++ rest)
            ∙ ap (λ (l : List ℕ). so_far.done ++ lines l) (sym (append_assoc so_far.line piece rest));
        in_line = HasNoLineFeed-append so_far.line piece so_far.in_line none;
        answered = so_far.answered;
        is_verdict = verdict ∙ so_far.is_verdict;
        is_count = count ∙ so_far.is_count;
        kept = keeps so_far.line so_far.kept;
        written = so_far.written;
      }

  -- the last piece of a line and its LF, if the line is answered
  pub Advances-line : (old new : LineLoop) (from to : OutputBuffer W) (piece : List ℕ) → HasNoLineFeed piece
      → ((line : List ℕ) → KeepsLine old.line line
      → JudgesLine command contents (without_end LineFeed (line ++ piece)) old from new to)
      → Advances command contents old from (piece ++ 10 ∷ []) new to
  Advances-line old new from to piece none judges = record { reached = more }
    where
      more : (held : Option (List ℕ)) (input : List ℕ) → Reached command contents held input old from
          → Reached command contents held (input ++ (piece ++ 10 ∷ [])) new to
      more held input so_far =
          let judged = judges so_far.line so_far.kept in
          let line : List ℕ = so_far.line ++ piece in
          let ended : List ℕ = strip_carriage_return line in
          record {
            done = so_far.done ++ ended ∷ [];
            line = [];
            text = so_far.text ++ judged.text;
            all_accepted = so_far.all_accepted && judged.accepted;
            parts = λ rest.
                ap lines (append_assoc input (piece ++ 10 ∷ []) rest) ∙ so_far.parts ((piece ++ 10 ∷ []) ++ rest)
                ∙ ap (λ (l : List ℕ). so_far.done ++ lines (so_far.line ++ l)) (append_assoc piece (10 ∷ []) rest)
                ∙ ap (λ (l : List ℕ). so_far.done ++ lines l) (sym (append_assoc so_far.line piece (10 ∷ rest)))
                ∙ ap (λ (ls : List (List ℕ)). so_far.done ++ ls)
                (lines-line line rest (HasNoLineFeed-append so_far.line piece so_far.in_line none))
                ∙ sym (append_assoc so_far.done (ended ∷ []) (lines rest));
            in_line = HasNoLineFeed-nil;
            answered =
                AreAnswered-push command so_far.done so_far.text so_far.all_accepted ended judged.text judged.accepted
                so_far.answered judged.answered;
            is_verdict =
                judged.is_verdict ∙ ap (λ (v : Verdict). verdict_with v judged.accepted) so_far.is_verdict
                ∙ verdict_with-verdict_of so_far.all_accepted judged.accepted;
            is_count =
                let k = judged.is_count in
                let l = so_far.is_count in
                omega (arith, length-append so_far.done (ended ∷ []));
            kept = judged.begins;
            written =
                Appends-then held (contents_of contents from) (contents_of contents to) so_far.text judged.text
                so_far.written judged.written;
          }

  -- the last piece of a line and its LF, if the line is bad
  pub StopsWithin-line : (old : LineLoop) (from to : OutputBuffer W) (number : ℕ) (piece after later : List ℕ)
      → HasNoLineFeed piece
      → RefusesLine piece LineFeed old from to number
      → StopsWithin command contents old from (piece ++ 10 ∷ after) later to number
  StopsWithin-line old from to number piece after later none refuses = record { stops = stop }
    where
      stop : (held : Option (List ℕ)) (input : List ℕ) → Reached command contents held input old from
          → (text : List ℕ) × Appends held (contents_of contents to) text
          × StopsAtLine command ((input ++ (piece ++ 10 ∷ after)) ++ later) number text
      stop held input so_far =
          let line : List ℕ = so_far.line ++ piece in (
            so_far.text,
            subst (λ (g : OutputBuffer W). Appends held (contents_of contents g) so_far.text) (sym refuses.same)
                so_far.written,
            record {
              good = so_far.done;
              bad = strip_carriage_return line;
              later = lines (after ++ later);
              all_accepted = so_far.all_accepted;
              parts =
                  ap lines (append_assoc input (piece ++ 10 ∷ after) later)
                  ∙ so_far.parts ((piece ++ 10 ∷ after) ++ later)
                  ∙ ap (λ (l : List ℕ). so_far.done ++ lines (so_far.line ++ l)) (append_assoc piece (10 ∷ after) later)
                  ∙ ap (λ (l : List ℕ). so_far.done ++ lines l)
                  (sym (append_assoc so_far.line piece (10 ∷ (after ++ later))))
                  ∙ ap (λ (ls : List (List ℕ)). so_far.done ++ ls)
                  (lines-line line (after ++ later) (HasNoLineFeed-append so_far.line piece so_far.in_line none));
              answered = so_far.answered;
              is_bad = refuses.is_bad so_far.line so_far.kept;
              is_number = let k = refuses.is_number in let l = so_far.is_count in omega arith;
            },
          )

  pub StopsWithin-after : (old mid : LineLoop) (from between to : OutputBuffer W) (number : ℕ) (xs ys later : List ℕ)
      → Advances command contents old from xs mid between → StopsWithin command contents mid between ys later to number
      → StopsWithin command contents old from (xs ++ ys) later to number
  StopsWithin-after old mid from between to number xs ys later first second = record {
    stops = λ held input so_far.
        subst
        (λ (i : List ℕ).
        (text : List ℕ) × Appends held (contents_of contents to) text
        × StopsAtLine command (i ++ later) number text)
        (append_assoc input xs ys)
        (second.stops held (input ++ xs) (first.reached held input so_far));
  }

  -- the end of the input, if no line is under way
  pub Finishes-nothing : (at : LineLoop) (out : OutputBuffer W)
      → ((line : List ℕ) → KeepsLine at.line line → (length line == 0) ≡ true)
      → Finishes command contents at out out at.verdict
  Finishes-nothing at out empty = record { answered = all }
    where
      all : (held : Option (List ℕ)) (input : List ℕ) → Reached command contents held input at out
          → (text : List ℕ) × (all_accepted : Bool) × Appends held (contents_of contents out) text
          × AreAnswered command (lines input) text all_accepted × (at.verdict ≡ verdict_of all_accepted)
      all held input so_far =
          let whole : lines input ≡ so_far.done =
          ap lines (sym (append-nil input)) ∙ so_far.parts []
          ∙ ap (λ (l : List ℕ). so_far.done ++ lines l) (append-nil so_far.line)
          ∙ ap (λ (ls : List (List ℕ)). so_far.done ++ ls) (lines-nothing so_far.line (empty so_far.line so_far.kept))
          ∙ append-nil so_far.done in (
            so_far.text,
            so_far.all_accepted,
            so_far.written,
            subst (λ (ls : List (List ℕ)). AreAnswered command ls so_far.text so_far.all_accepted) (sym whole)
                so_far.answered,
            so_far.is_verdict,
          )

  -- the lines of an input that ends in a line with no LF
  ended_lines : (held : Option (List ℕ)) (input : List ℕ) (at : LineLoop) (out : OutputBuffer W)
      (so_far : Reached command contents held input at out)
      → (length so_far.line == 0) ≡ false → lines input ≡ so_far.done ++ so_far.line ∷ []
  ended_lines held input at out so_far some =
      ap lines (sym (append-nil input)) ∙ so_far.parts []
      ∙ ap (λ (l : List ℕ). so_far.done ++ lines l) (append-nil so_far.line)
      ∙ ap (λ (ls : List (List ℕ)). so_far.done ++ ls) (lines-last so_far.line so_far.in_line some)

  -- the end of the input, if it ends a line that is answered
  pub Finishes-line : (old new : LineLoop) (from to : OutputBuffer W)
      → ((line : List ℕ) → KeepsLine old.line line → (length line == 0) ≡ false)
      → ((line : List ℕ) → KeepsLine old.line line
      → JudgesLine command contents (without_end InputEnd (line ++ [])) old from new to)
      → Finishes command contents old from to new.verdict
  Finishes-line old new from to some judges = record { answered = all }
    where
      all : (held : Option (List ℕ)) (input : List ℕ) → Reached command contents held input old from
          → (text : List ℕ) × (all_accepted : Bool) × Appends held (contents_of contents to) text
          × AreAnswered command (lines input) text all_accepted × (new.verdict ≡ verdict_of all_accepted)
      all held input so_far =
          let judged =
          subst (λ (l : List ℕ). JudgesLine command contents l old from new to) (append-nil so_far.line)
          (judges so_far.line so_far.kept) in
          let whole = ended_lines held input old from so_far (some so_far.line so_far.kept) in (
            so_far.text ++ judged.text,
            so_far.all_accepted && judged.accepted,
            Appends-then held (contents_of contents from) (contents_of contents to) so_far.text judged.text
                so_far.written judged.written,
            subst
                (λ (ls : List (List ℕ)).
                AreAnswered command ls (so_far.text ++ judged.text) (so_far.all_accepted && judged.accepted))
                (sym whole)
                (AreAnswered-push command so_far.done so_far.text so_far.all_accepted so_far.line judged.text
                judged.accepted so_far.answered judged.answered),
            judged.is_verdict ∙ ap (λ (v : Verdict). verdict_with v judged.accepted) so_far.is_verdict
                ∙ verdict_with-verdict_of so_far.all_accepted judged.accepted,
          )

  -- the end of the input, if it ends a bad line
  pub StopsWithin-end : (old : LineLoop) (from to : OutputBuffer W) (number : ℕ)
      → ((line : List ℕ) → KeepsLine old.line line → (length line == 0) ≡ false)
      → RefusesLine [] InputEnd old from to number → StopsWithin command contents old from [] [] to number
  StopsWithin-end old from to number some refuses = record { stops = stop }
    where
      stop : (held : Option (List ℕ)) (input : List ℕ) → Reached command contents held input old from
          → (text : List ℕ) × Appends held (contents_of contents to) text
          × StopsAtLine command ((input ++ []) ++ []) number text
      stop held input so_far = (
        so_far.text,
        subst (λ (g : OutputBuffer W). Appends held (contents_of contents g) so_far.text) (sym refuses.same)
            so_far.written,
        record {
          good = so_far.done;
          bad = so_far.line;
          later = [];
          all_accepted = so_far.all_accepted;
          parts =
              ap lines (append-nil (input ++ []) ∙ append-nil input)
              ∙ ended_lines held input old from so_far (some so_far.line so_far.kept);
          answered = so_far.answered;
          is_bad = subst IsBadLine (append-nil so_far.line) (refuses.is_bad so_far.line so_far.kept);
          is_number = let k = refuses.is_number in let l = so_far.is_count in omega arith;
        },
      )

  -- the same of a fault that names the bad line
  pub end_fault : (fault : ToolFault) (old : LineLoop) (from to : OutputBuffer W)
      → ((line : List ℕ) → KeepsLine old.line line → (length line == 0) ≡ false)
      → OnBadLine fault (RefusesLine [] InputEnd old from to)
      → OnBadLine fault (StopsWithin command contents old from [] [] to)
  end_fault fault old from to some refuses =
      OnBadLine-map fault (RefusesLine [] InputEnd old from to) (StopsWithin command contents old from [] [] to)
      (λ number h. StopsWithin-end old from to number some h) refuses

  -- a bad line of the chunk
  pub line_fault : (fault : ToolFault) (start old : LineLoop) (first from to : OutputBuffer W)
      (chunk front rest piece after : List ℕ)
      → chunk ≡ front ++ rest → Advances command contents start first front old from → HasNoLineFeed piece
      → rest ≡ piece ++ 10 ∷ after
      → OnBadLine fault (RefusesLine piece LineFeed old from to)
      → OnBadLine fault (λ number. (later : List ℕ) → StopsWithin command contents start first chunk later to number)
  line_fault fault start old first from to chunk front rest piece after whole so_far none parts refuses =
      OnBadLine-map fault (RefusesLine piece LineFeed old from to)
      (λ number. (later : List ℕ) → StopsWithin command contents start first chunk later to number)
      (λ number h later. stop number h later) refuses
    where
      stop : (number : ℕ) → RefusesLine piece LineFeed old from to number → (later : List ℕ)
          → StopsWithin command contents start first chunk later to number
      stop number h later =
          let joined : front ++ (piece ++ 10 ∷ after) ≡ chunk =
          ap (λ (bytes : List ℕ). front ++ bytes) (sym parts) ∙ sym whole in
          subst (λ (bytes : List ℕ). StopsWithin command contents start first bytes later to number) joined
          (StopsWithin-after start old first from to number front (piece ++ 10 ∷ after) later so_far
          (StopsWithin-line old from to number piece after later none h))

  -- a line of the chunk more
  pub line_taken : (start old new : LineLoop) (first from to : OutputBuffer W) (chunk front rest piece after : List ℕ)
      → chunk ≡ front ++ rest → Advances command contents start first front old from → HasNoLineFeed piece
      → rest ≡ piece ++ 10 ∷ after
      → ((line : List ℕ) → KeepsLine old.line line
      → JudgesLine command contents (without_end LineFeed (line ++ piece)) old from new to)
      → (more : List ℕ) × (chunk ≡ more ++ after) × Advances command contents start first more new to
  line_taken start old new first from to chunk front rest piece after whole so_far none parts judges = (
    front ++ (piece ++ 10 ∷ []),
    whole ∙ ap (λ (bytes : List ℕ). front ++ bytes) (parts ∙ sym (append_assoc piece (10 ∷ []) after))
        ∙ sym (append_assoc front (piece ++ 10 ∷ []) after),
    Advances-then start old new first from to front (piece ++ 10 ∷ []) so_far
        (Advances-line old new from to piece none judges),
  )

  -- the rest of the chunk
  pub rest_taken : (start old new : LineLoop) (first out : OutputBuffer W) (chunk front rest : List ℕ)
      → chunk ≡ front ++ rest → Advances command contents start first front old out → HasNoLineFeed rest
      → ((kept : List ℕ) → KeepsLine old.line kept → KeepsLine new.line (kept ++ rest)) → new.count ≡ old.count
      → new.verdict ≡ old.verdict
      → Advances command contents start first chunk new out
  rest_taken start old new first out chunk front rest whole so_far none keeps count verdict =
      subst (λ (bytes : List ℕ). Advances command contents start first bytes new out) (sym whole)
      (Advances-then start old new first out out front rest so_far
      (Advances-piece old new out rest none keeps count verdict))
