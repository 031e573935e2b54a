-- What a run has read and written, one read after another.
use Rattle.std.proofs.Common.{◌≡◌, ◌⊎◌, ℕ, ◌-◌, ◌^◌, ◌<◌, List, [], ◌++◌, length, Option, Some, true, unwrap_or, Result, Ok, Err, IfOk, IfErr, IsErrAnd, sym, subst, append-nil}
use Rattle.std.specs.Str.Lines.{lines}
use Rattle.std.specs.Io.KnownBytes.{Consumes, IsAtEnd, Keeps}
use Rattle.ether_output.specs.OutputBuffer.{contents_of, WritesOut}
use Rattle.ether_text.specs.Tool.Run.{AnswersSlice, AreAnswered, StopsAtLine, HasRun, OnBadLine, OnStreamFault}
use Rattle.ether_text.specs.Tool.LineLoop.{Reached, StopsWithin, Finishes}
use Rattle.ether_text.specs.declared.tool.command.Command.{Command}
use Rattle.ether_text.specs.declared.verdict.Verdict.{Verdict}
use Rattle.ether_text.specs.declared.tool.outcome.ToolFault.{ToolFault}
use Rattle.ether_text.specs.declared.tool.outcome.ToolFault.TheVariants.{BadLine, Input, Output}
use Rattle.ether_output.specs.declared.output_buffer.OutputBuffer.{OutputBuffer}
use Rattle.ether_text.specs.declared.tool.line_loop.LineLoop.{LineLoop}
use Rattle.ether_output.proofs.KnownBytesLemmas.{Consumes-then, Consumes-kept}
use Rattle.ether_text.proofs.RunLemmas.{IsLeft-left_of, IsLeft-end, Consumes-nothing, answers_slice, stops_slice, no_endless_slice}
use Rattle.ether_text.specs.Run.{IsEndless}
use Rattle.ether_text.proofs.tool.LineLoopLemmas.{Reached-written_out}

-- what is said of known bytes is said of the same bytes
pub HasRun-same : (command : Command) (r : Result Verdict ToolFault)
    (before after held holds before' after' held' holds' : Option (List ℕ))
    → before ≡ before' → after ≡ after' → held ≡ held' → holds ≡ holds' → HasRun command before after held holds r
    → HasRun command before' after' held' holds' r
HasRun-same command r before after held holds before' after' held' holds' e f g h =
    subst (λ (t : Type 0). t) (λ i. HasRun command (e i) (f i) (g i) (h i) r)

module _ {W : Type 0} (command : Command) (contents : W → Option (List ℕ))
    (before mid after held : Option (List ℕ)) where
  -- the last read gave nothing, and the last line is answered or bad
  pub finished : (r : Result Verdict ToolFault) (input nothing : List ℕ) (at : LineLoop) (old from to : OutputBuffer W)
      → Consumes before mid input → Consumes mid after nothing → nothing ≡ [] → IsAtEnd after
      → WritesOut contents old from → Reached command contents held input at old
      → IfOk r (Finishes command contents at from to)
      → IfErr r (λ fault. OnBadLine fault (StopsWithin command contents at from [] [] to))
      → IfErr r (λ fault. OnStreamFault fault ⊥ (to.has_failed ≡ true))
      → HasRun command before after held (contents_of contents to) r
  finished (Ok verdict) input nothing at old from to read last none end drains so_far h bad failed =
      let (text, all_accepted, written, answered, is_verdict) =
      h.answered held input (Reached-written_out command contents held input at old from drains so_far) in
      record {
        input = input;
        text = text;
        all_accepted = all_accepted;
        read = Consumes-nothing before mid after input nothing read last none;
        at_end = end;
        answered = answered;
        is_verdict = is_verdict;
        written = written;
      }
  finished (Err (BadLine number)) input nothing at old from to read last none end drains so_far h bad failed =
      let (text, written, stops) =
      bad.stops held input (Reached-written_out command contents held input at old from drains so_far) in
      record {
        taken = input;
        left = [];
        text = text;
        read = Consumes-nothing before mid after input nothing read last none;
        is_left = IsLeft-end after end;
        stops =
            subst (λ (bytes : List ℕ). StopsAtLine command (bytes ++ []) number text) (append-nil input) stops;
        written = written;
      }
  finished (Err Input) input nothing at old from to read last none end drains so_far h bad failed = absurd failed
  finished (Err Output) input nothing at old from to read last none end drains so_far h bad failed = tt

  -- a line that ends in what was read is bad
  pub stopped : (fault : ToolFault) (input chunk : List ℕ) (at : LineLoop) (old from to : OutputBuffer W)
      → Consumes before mid input → Consumes mid after chunk → WritesOut contents old from
      → Reached command contents held input at old
      → OnBadLine fault (λ number. (later : List ℕ) → StopsWithin command contents at from chunk later to number)
      → OnStreamFault fault ⊥ (to.has_failed ≡ true)
      → HasRun command before after held (contents_of contents to) (Err fault)
  stopped (BadLine number) input chunk at old from to read last drains so_far bad failed =
      let (text, written, stops) =
      (bad (unwrap_or after [])).stops held input
      (Reached-written_out command contents held input at old from drains so_far) in
      record {
        taken = input ++ chunk;
        left = unwrap_or after [];
        text = text;
        read = Consumes-then before mid after input chunk read last;
        is_left = IsLeft-left_of after;
        stops = stops;
        written = written;
      }
  stopped Input input chunk at old from to read last drains so_far bad failed = absurd failed
  stopped Output input chunk at old from to read last drains so_far bad failed = tt

  -- a read fails
  pub broken_off : (r : Result Verdict ToolFault) (input : List ℕ) (at : LineLoop) (old from : OutputBuffer W)
      → Consumes before mid input → Keeps mid after → WritesOut contents old from
      → Reached command contents held input at old
      → IsErrAnd r (λ fault. fault ≡ Input) → HasRun command before after held (contents_of contents from) r
  broken_off (Ok verdict) input at old from read kept drains so_far is = absurd is
  broken_off (Err fault) input at old from read kept drains so_far is =
      let reached = Reached-written_out command contents held input at old from drains so_far in
      subst (λ (f : ToolFault). HasRun command before after held (contents_of contents from) (Err f)) (sym is) (record {
        taken = input;
        text = reached.text;
        read = Consumes-kept before mid after input read kept;
        begins =
            record {
              done = reached.done;
              begun = reached.line;
              all_accepted = reached.all_accepted;
              parts = reached.parts;
              in_line = reached.in_line;
              answered = reached.answered;
            };
        written = reached.written;
      })

-- ---- a run over a slice

slice_answers : (command : Command) (can_fail : Type 0) (bytes : List ℕ) (after held holds : Option (List ℕ))
    (r : Result Verdict ToolFault)
    → length bytes < 2 ^ 64 - 1
    → HasRun command (Some bytes) after held holds r
    → IfErr r (λ fault. OnStreamFault fault (⊥ ⊎ IsEndless (Some bytes) after) can_fail)
    → AnswersSlice command can_fail bytes held holds r
slice_answers command can_fail bytes after held holds (Ok verdict) short h failed =
    answers_slice (λ input. AreAnswered command (lines input)) bytes after held holds verdict h
slice_answers command can_fail bytes after held holds (Err (BadLine number)) short h failed =
    stops_slice (λ input. StopsAtLine command input number) bytes after held holds h
slice_answers command can_fail bytes after held holds (Err Input) short h failed =
    absurd (no_endless_slice bytes after short failed)
slice_answers command can_fail bytes after held holds (Err Output) short h failed = failed

pub slice_answered : (command : Command) (can_fail : Type 0) (bytes : List ℕ)
    (before after held holds : Option (List ℕ)) (r : Result Verdict ToolFault)
    → before ≡ Some bytes → length bytes < 2 ^ 64 - 1 → HasRun command before after held holds r
    → IfErr r (λ fault. OnStreamFault fault (⊥ ⊎ IsEndless before after) can_fail)
    → AnswersSlice command can_fail bytes held holds r
slice_answered command can_fail bytes before after held holds r is short h failed =
    slice_answers command can_fail bytes after held holds r short
    (subst (λ (o : Option (List ℕ)). HasRun command o after held holds r) is h)
    (subst (λ (o : Option (List ℕ)). IfErr r (λ fault. OnStreamFault fault (⊥ ⊎ IsEndless o after) can_fail)) is failed)
