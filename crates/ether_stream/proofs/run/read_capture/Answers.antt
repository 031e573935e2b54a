use Rattle.std.proofs.Common.{rules, ◌≡◌, ℕ, Option, Some, IfSome, IfNone, List, [], ◌++◌, length, refl, sym, ap, subst, ◌∙◌, arith}
use Rattle.ether_pcap.specs.Capture.{IsEnd}
use Rattle.ether_pcap.specs.declared.capture.capture_error.CaptureError.{CaptureError}
use Rattle.ether_output.specs.OutputBuffer.{contents_of}
use Rattle.ether_output.proofs.KnownBytesLemmas.{Consumes-none, Consumes-then}
use Rattle.ether_text.proofs.InputReaderLemmas.{ReadsOn-none, ReadsOn-then, read_stops}
use Rattle.ether_output.proofs.OutputBufferLemmas.{Marks-none, Marks-then}
use Rattle.ether_text.proofs.RunLemmas.{on_input}
use Rattle.ether_stream.specs.InputBuffer.{items}
use Rattle.ether_stream.specs.Progress.{Reached}
use Rattle.ether_stream.specs.Run.{stream_of}
use Rattle.ether_stream.specs.Task.{task_view}
use Rattle.ether_stream.proofs.ProgressLemmas.{Reached-start, Reached-more, Reached-written_out}
use Rattle.ether_stream.proofs.RunLemmas.{broken_off, counted_out, has_room, consumed_all, finished, same_left, stopped_at_end, stopped_for_good, stopped_with, without_memory}
use Rattle.ether_stream.proofs.run.read_capture.Goals as goal

-- what holds of an error that is there
if_some : {o : Option CaptureError} {e : CaptureError} (P : CaptureError → Type 0) → o ≡ Some e → IfSome o P → P e
if_some P is = subst (λ (q : Option CaptureError). IfSome q P) is

pub loop-edits-init : goal.loop-edits-init
loop-edits-init g c = (
  [],
  record {
    same_reader = refl;
    same_writer = refl;
    read = Consumes-none _;
    on = ReadsOn-none g.R.Source.remaining _;
    marks = Marks-none g.W.Sink.can_fail _;
    reached =
        subst
        (λ (l : List ℕ).
        Reached (task_view c.args.task.now) g.W.Sink.contents (contents_of g.W.Sink.contents c.args.out.now)
        [] l
        c.args.progress.now c.args.out.now)
        (sym c.clear.ensures)
        (Reached-start (task_view c.args.task.now) g.W.Sink.contents c.args.progress.now
        c.args.out.now c.requires);
  },
)

pub returns-in_default-clause-run : goal.returns-in_default-clause-run
returns-in_default-clause-run g c =
    let (taken, so_far) = c.loop-edits.invariant in
    let rest = c.in_ok-error.ensures.ok in
    let at = c.take_units.new.progress in
    let done = subst (λ (o : Option CaptureError). IfNone o (at.left ≡ Some 0)) c.in_default.is rest.done in
    counted_out _ _ _ _ _ _ _ at c.take_units.new.out c.finish.new.out _ so_far.read done c.finish.ensures.ok
    c.finish.ensures.written c.finish.ensures.fault (rest.reached _ taken so_far.reached)

pub returns-in_default-clause-marks : goal.returns-in_default-clause-marks
returns-in_default-clause-marks g c = search rules

pub returns-in_default-required_len-clause-run : goal.returns-in_default-required_len-clause-run
returns-in_default-required_len-clause-run g c =
    let (taken, so_far) = c.loop-edits.invariant in
    let rest = c.in_ok-error.ensures.ok in
    let refused = if_some _ c.in-Some.is rest.refused in
    let reached = rest.reached _ taken so_far.reached in
    stopped_for_good _ _ _ _ _ _ _ c.take_units.new.progress c.take_units.new.out _ _ c.fault.ensures so_far.read
    refused.1 refused.0 (search rules) reached

pub returns-in_err-make_room-clause-run : goal.returns-in_err-make_room-clause-run
returns-in_err-make_room-clause-run g c =
    let (taken, so_far) = c.loop-edits.invariant in
    let rest = c.in_ok-error.ensures.ok in
    let refused = if_some _ c.in-Some.is rest.refused in
    let reached = rest.reached _ taken so_far.reached in
    let flushed =
    Reached-written_out _ _ _ _ _ _ c.take_units.new.out c.write_out.new.self c.in_ok-write_out.ensures.ok reached in
    without_memory _ _ _ _ _ _ _ _ c.take_units.new.progress c.write_out.new.self _ c.in-Some-required_len.required_len
    c.from_residual-in_err-make_room.ensures.1 so_far.read refused.1 refused.0 (search rules)
    c.in_err-make_room.ensures.failed flushed

pub returns-in_err-read-clause-run : goal.returns-in_err-read-clause-run
returns-in_err-read-clause-run g c =
    let (taken, so_far) = c.loop-edits.invariant in
    let rest = c.in_ok-error.ensures.ok in
    let refused = if_some _ c.in-Some.is rest.refused in
    let reached = rest.reached _ taken so_far.reached in
    let flushed =
    Reached-written_out _ _ _ _ _ _ c.take_units.new.out c.write_out.new.self c.in_ok-write_out.ensures.ok reached in
    broken_off _ _ _ _ _ _ _ _ _ c.take_units.new.progress c.write_out.new.self _ so_far.read c.in_err-read.ensures.kept
    c.from_residual-in_err-read.ensures.1 refused.1 refused.0 (search rules) flushed

pub returns-then-is_over-clause-run : goal.returns-then-is_over-clause-run
returns-then-is_over-clause-run g c =
    let (taken, so_far) = c.loop-edits.invariant in
    let rest = c.in_ok-error.ensures.ok in
    let refused = if_some _ c.in-Some.is rest.refused in
    let reached = rest.reached _ taken so_far.reached in
    let flushed =
    Reached-written_out _ _ _ _ _ _ c.take_units.new.out c.write_out.new.self c.in_ok-write_out.ensures.ok reached in
    let (more, is_len, added, consumed) = c.in_ok-read.ensures.ok in
    let grown = added ∙ ap (λ (l : List ℕ). l ++ more) c.make_room.ensures.items in
    let none : length more ≡ 0 = is_len ∙ c.if-branch-eq0.true in
    let end =
    c.in_ok-read.ensures.end c.if-branch-eq0.true
    (has_room _ _ _ c.in-Some-required_len.required_len _ _ refused.0 (search rules) c.make_room.ensures.items
    c.in_ok-make_room.ensures.room) in
    let read = consumed_all _ _ _ taken more so_far.read consumed none in
    let same = grown ∙ same_left _ more none in
    let over = subst (IsEnd c.take_units.new.progress.reader) same (c.is_over.ensures.0 (search rules)) in
    finished _ _ _ _ _ _ _ c.take_units.new.progress c.write_out.new.self c.finish-then-is_over.new.out _ read end
    refused.1 over c.finish-then-is_over.ensures.ok c.finish-then-is_over.ensures.written
    c.finish-then-is_over.ensures.fault flushed

pub returns-then-branch-eq0-clause-run : goal.returns-then-branch-eq0-clause-run
returns-then-branch-eq0-clause-run g c =
    let (taken, so_far) = c.loop-edits.invariant in
    let rest = c.in_ok-error.ensures.ok in
    let refused = if_some _ c.in-Some.is rest.refused in
    let reached = rest.reached _ taken so_far.reached in
    let flushed =
    Reached-written_out _ _ _ _ _ _ c.take_units.new.out c.write_out.new.self c.in_ok-write_out.ensures.ok reached in
    let (more, is_len, added, consumed) = c.in_ok-read.ensures.ok in
    let grown = added ∙ ap (λ (l : List ℕ). l ++ more) c.make_room.ensures.items in
    let none : length more ≡ 0 = is_len ∙ c.if-branch-eq0.true in
    let end =
    c.in_ok-read.ensures.end c.if-branch-eq0.true
    (has_room _ _ _ c.in-Some-required_len.required_len _ _ refused.0 (search rules) c.make_room.ensures.items
    c.in_ok-make_room.ensures.room) in
    let read = consumed_all _ _ _ taken more so_far.read consumed none in
    let same = grown ∙ same_left _ more none in
    let reader = c.take_units.new.progress.reader in
    let more_left =
    λ (over : IsEnd reader (items c.take_units.new.self)). let t =
    c.is_over.ensures.1 (subst (IsEnd reader) (sym same) over) in
    absurd cc in
    stopped_at_end _ _ _ _ _ _ _ c.take_units.new.progress c.write_out.new.self _ _ c.fault-then-branch-eq0.ensures read
    end refused.1 more_left refused.0 flushed

pub loop-edits-preserved : goal.loop-edits-preserved
loop-edits-preserved g c =
    let (taken, so_far) = c.loop-edits.invariant in
    let rest = c.in_ok-error.ensures.ok in
    let reached = rest.reached _ taken so_far.reached in
    let flushed =
    Reached-written_out _ _ _ _ _ _ c.take_units.new.out c.write_out.new.self c.in_ok-write_out.ensures.ok reached in
    let (more, is_len, added, consumed) = c.in_ok-read.ensures.ok in
    let grown = added ∙ ap (λ (l : List ℕ). l ++ more) c.make_room.ensures.items in (
      taken ++ more,
      record {
        same_reader = c.read.ensures.same_reader ∙ so_far.same_reader;
        same_writer = c.write_out.ensures.same_writer ∙ c.take_units.ensures.same_writer ∙ so_far.same_writer;
        read = Consumes-then _ _ _ taken more so_far.read consumed;
        on =
            ReadsOn-then g.R.Source.remaining _ _ _ so_far.on
            (c.in_ok-read.ensures.on (omega (arith, c.if-branch-eq0.false)));
        marks =
            Marks-then _ _ _ (Marks-then _ _ _ so_far.marks c.take_units.ensures.marks) c.write_out.ensures.marks;
        reached =
            subst
            (λ (l : List ℕ).
            Reached (task_view c.args.task.now) g.W.Sink.contents (contents_of g.W.Sink.contents c.args.out.now)
            (taken ++ more) l c.take_units.new.progress c.write_out.new.self)
            (sym grown)
            (Reached-more _ _ _ _ _ more c.take_units.new.progress c.write_out.new.self flushed);
      },
    )

pub returns-in_err-error-clause-marks : goal.returns-in_err-error-clause-marks
returns-in_err-error-clause-marks g c = Marks-then _ _ _ c.loop-edits.invariant.1.marks c.take_units.ensures.marks

pub returns-in_err-write_out-clause-marks : goal.returns-in_err-write_out-clause-marks
returns-in_err-write_out-clause-marks g c = search rules

pub returns-in_err-read-clause-cause : goal.returns-in_err-read-clause-cause
returns-in_err-read-clause-cause g c =
    let why =
    read_stops g.R.Source.remaining g.R.Source.can_fail c.write_out.new.self c.args.input.now c.loop-edits.input
    c.read.new.input
    c.loop-edits.invariant.1.on c.in_ok-write_out.ensures.ok.none_waits c.in_err-read.ensures.cause
    c.in_err-read.ensures.kept in
    on_input stream_of c.from_residual-in_err-read.result _ why

pub returns-in_err-read-clause-marks : goal.returns-in_err-read-clause-marks
returns-in_err-read-clause-marks g c = search rules

pub returns-then-is_over-clause-marks : goal.returns-then-is_over-clause-marks
returns-then-is_over-clause-marks g c = search rules

pub returns-then-branch-eq0-clause-marks : goal.returns-then-branch-eq0-clause-marks
returns-then-branch-eq0-clause-marks g c = search rules

pub returns-in_err-error-clause-run : goal.returns-in_err-error-clause-run
returns-in_err-error-clause-run g c =
    let (taken, so_far) = c.loop-edits.invariant in
    stopped_with _ _ _ _ _ _ c.in_err-error.field-0.0 _ _ c.loop-edits.progress c.take_units.new.progress
    c.loop-edits.out c.take_units.new.out c.from_residual.ensures.1
    c.in_err-error.ensures.fault c.in_err-error.ensures.stopped so_far.read so_far.reached
