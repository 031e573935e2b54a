use Rattle.std.proofs.Common.{rules, ℕ, ◌≤◌, List, [], ◌++◌, length, take, refl, ap, ◌∙◌, arith}
use Rattle.std.proofs.lemmas.List.{length-take-le}
use Rattle.ether_output.specs.OutputBuffer.{contents_of}
use Rattle.ether_output.proofs.KnownBytesLemmas.{Consumes-none, Consumes-then}
use Rattle.ether_text.proofs.InputReaderLemmas.{ReadsOn-none, ReadsOn-then, read_on, read_stops}
use Rattle.ether_output.proofs.OutputBufferLemmas.{Marks-none, Marks-then}
use Rattle.ether_text.proofs.tool.LineLoopLemmas.{Reached-written_out, Reached-start}
use Rattle.ether_text.proofs.RunLemmas.{no_input, on_input}
use Rattle.ether_text.specs.Tool.Run.{stream_of}
use Rattle.ether_text.proofs.tool.RunLemmas.{broken_off, finished, stopped}
use Rattle.ether_text.proofs.tool.run.read_lines.Goals as goal

pub loop-input-init : goal.loop-input-init
loop-input-init g c = (
  [],
  record {
    same_reader = refl;
    same_writer = refl;
    read = Consumes-none _;
    on = ReadsOn-none g.R.Source.remaining _;
    marks = Marks-none g.W.Sink.can_fail _;
    reached = Reached-start c.args.command g.W.Sink.contents c.new-lines.result c.args.out.now c.new-lines.ensures;
  },
)

pub returns-in_err-count-clause-run : goal.returns-in_err-count-clause-run
returns-in_err-count-clause-run g c =
    let (taken, so_far) = c.loop-input.invariant in
    let h =
    broken_off c.args.command g.W.Sink.contents (g.R.Source.remaining c.args.input.now.inner.now)
    (g.R.Source.remaining c.loop-input.input.inner.now) (g.R.Source.remaining c.read.new.self.inner.now)
    (contents_of g.W.Sink.contents c.args.out.now) c.from_residual-in_err-count.result taken c.loop-input.lines
    c.loop-input.out c.write_out.new.self
    so_far.read c.in_err-count.ensures.kept c.in_ok-write_out.ensures.ok so_far.reached
    c.from_residual-in_err-count.ensures.1 in
    search (rules, h)

pub returns-then-count-eq0-clause-same_reader : goal.returns-then-count-eq0-clause-same_reader
returns-then-count-eq0-clause-same_reader g c = c.read.ensures.same_reader ∙ c.loop-input.invariant.1.same_reader

pub returns-then-count-eq0-clause-run : goal.returns-then-count-eq0-clause-run
returns-then-count-eq0-clause-run g c =
    let (taken, so_far) = c.loop-input.invariant in
    let nothing = ap (λ (n : ℕ). take n c.read.new.chunk) c.if-count-eq0.true in
    let end = c.in_ok-count.ensures.end c.if-count-eq0.true (omega arith) in
    finished c.args.command g.W.Sink.contents (g.R.Source.remaining c.args.input.now.inner.now)
    (g.R.Source.remaining c.loop-input.input.inner.now) (g.R.Source.remaining c.read.new.self.inner.now)
    (contents_of g.W.Sink.contents c.args.out.now) c.finish.result taken _ c.loop-input.lines c.loop-input.out
    c.write_out.new.self c.finish.new.out
    so_far.read c.in_ok-count.ensures.read nothing end c.in_ok-write_out.ensures.ok so_far.reached c.finish.ensures.ok
    c.finish.ensures.bad c.finish.ensures.failed

pub returns-in_err-take_chunk-clause-run : goal.returns-in_err-take_chunk-clause-run
returns-in_err-take_chunk-clause-run g c =
    let (taken, so_far) = c.loop-input.invariant in
    let chunk : List ℕ = take c.in_ok-count.count c.read.new.chunk in
    let h =
    stopped c.args.command g.W.Sink.contents (g.R.Source.remaining c.args.input.now.inner.now)
    (g.R.Source.remaining c.loop-input.input.inner.now) (g.R.Source.remaining c.read.new.self.inner.now)
    (contents_of g.W.Sink.contents c.args.out.now) c.in_err-take_chunk.field-0.0 taken chunk c.loop-input.lines
    c.loop-input.out c.write_out.new.self c.take_chunk.new.out
    so_far.read c.in_ok-count.ensures.read c.in_ok-write_out.ensures.ok so_far.reached
    c.in_err-take_chunk.ensures.bad c.in_err-take_chunk.ensures.failed in
    search (rules, h)

pub loop-input-smaller : goal.loop-input-smaller
loop-input-smaller g c = let left = c.in_ok-count.ensures.left in omega arith

pub loop-input-preserved : goal.loop-input-preserved
loop-input-preserved g c =
    let (taken, so_far) = c.loop-input.invariant in
    let chunk : List ℕ = take c.in_ok-count.count c.read.new.chunk in
    let len = length-take-le c.in_ok-count.count c.read.new.chunk c.in_ok-count.ensures.bound in
    let some : 1 ≤ length chunk = omega (arith, len, c.if-count-eq0.false) in
    let held = contents_of g.W.Sink.contents c.args.out.now in
    let drains = c.in_ok-write_out.ensures.ok in
    let more = c.in_ok-take_chunk.ensures.ok in (
      taken ++ chunk,
      record {
        same_reader = c.read.ensures.same_reader ∙ so_far.same_reader;
        same_writer = c.take_chunk.ensures.same_writer ∙ c.write_out.ensures.same_writer ∙ so_far.same_writer;
        read =
            Consumes-then (g.R.Source.remaining c.args.input.now.inner.now)
            (g.R.Source.remaining c.loop-input.input.inner.now) (g.R.Source.remaining c.read.new.self.inner.now)
            taken chunk so_far.read c.in_ok-count.ensures.read;
        on =
            ReadsOn-then g.R.Source.remaining _ _ _ so_far.on
            (read_on g.R.Source.remaining c.loop-input.input c.read.new.self chunk c.in_ok-count.ensures.read
            c.in_ok-count.ensures.going c.in_ok-count.ensures.left some);
        marks = Marks-then _ _ _ (Marks-then _ _ _ so_far.marks c.write_out.ensures.marks) c.take_chunk.ensures.marks;
        reached =
            more.reached held taken
            (Reached-written_out c.args.command g.W.Sink.contents held taken c.loop-input.lines c.loop-input.out
            c.write_out.new.self drains so_far.reached);
      },
    )

pub returns-in_err-count-clause-cause : goal.returns-in_err-count-clause-cause
returns-in_err-count-clause-cause g c =
    let (taken, so_far) = c.loop-input.invariant in
    let why =
    read_stops g.R.Source.remaining g.R.Source.can_fail c.write_out.new.self c.args.input.now c.loop-input.input
    c.read.new.self so_far.on c.in_ok-write_out.ensures.ok.none_waits c.in_err-count.ensures.cause
    c.in_err-count.ensures.kept in
    on_input stream_of c.from_residual-in_err-count.result _ why

pub returns-in_err-write_out-clause-marks : goal.returns-in_err-write_out-clause-marks
returns-in_err-write_out-clause-marks g c = Marks-then _ _ _ c.loop-input.invariant.1.marks c.write_out.ensures.marks

pub returns-in_err-count-clause-marks : goal.returns-in_err-count-clause-marks
returns-in_err-count-clause-marks g c = Marks-then _ _ _ c.loop-input.invariant.1.marks c.write_out.ensures.marks

pub returns-then-count-eq0-clause-cause : goal.returns-then-count-eq0-clause-cause
returns-then-count-eq0-clause-cause g c = no_input stream_of c.finish.result _ _ c.finish.ensures.failed

pub returns-then-count-eq0-clause-marks : goal.returns-then-count-eq0-clause-marks
returns-then-count-eq0-clause-marks g c =
    Marks-then _ _ _ (Marks-then _ _ _ c.loop-input.invariant.1.marks c.write_out.ensures.marks) c.finish.ensures.marks

pub returns-in_err-take_chunk-clause-marks : goal.returns-in_err-take_chunk-clause-marks
returns-in_err-take_chunk-clause-marks g c =
    Marks-then _ _ _ (Marks-then _ _ _ c.loop-input.invariant.1.marks c.write_out.ensures.marks)
    c.take_chunk.ensures.marks
