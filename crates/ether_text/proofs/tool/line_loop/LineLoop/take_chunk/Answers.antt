use Rattle.std.proofs.Common.{[], rules, refl, ◌∙◌}
use Rattle.ether_output.proofs.OutputBufferLemmas.{Marks-none, Marks-then}
use Rattle.ether_text.specs.declared.tool.line_loop.LineLoop.{LineLoop}
use Rattle.ether_text.proofs.tool.LineLoopLemmas.{Advances-none, line_fault, line_taken, rest_taken}
use Rattle.ether_text.proofs.tool.line_loop.LineLoop.take_chunk.Goals as goal

pub loop-piece-init : goal.loop-piece-init
loop-piece-init g c = ([], refl, refl, Advances-none _ _ _ _, Marks-none _ _)

pub returns-in_err-judge-clause-bad : goal.returns-in_err-judge-clause-bad
returns-in_err-judge-clause-bad g c =
    let so_far = c.loop-piece.invariant in
    let h =
    line_fault c.args.command g.W.Sink.contents c.in_err-judge.field-0.0 c.args.self.now c.loop-piece.self
    c.args.out.now c.loop-piece.out c.judge.new.out
    c.args.chunk.now so_far.0 c.loop-piece.rest.now c.in-Some.piece.now c.in-Some.after.now
    so_far.2 so_far.3 c.in-Some.ensures.some.in_line c.in-Some.ensures.some.parts c.in_err-judge.ensures.bad in
    search (rules, h)

pub loop-piece-preserved : goal.loop-piece-preserved
loop-piece-preserved g c =
    let so_far = c.loop-piece.invariant in
    let (more, whole, advances) =
    line_taken c.args.command g.W.Sink.contents c.args.self.now c.loop-piece.self c.judge.new.self c.args.out.now
    c.loop-piece.out c.judge.new.out
    c.args.chunk.now so_far.0 c.loop-piece.rest.now c.in-Some.piece.now c.in-Some.after.now
    so_far.2 so_far.3 c.in-Some.ensures.some.in_line c.in-Some.ensures.some.parts
    c.in_ok-judge.ensures.ok
    in (
      more,
      c.judge.ensures.same_writer
          ∙ so_far.1,
      whole,
      advances,
      Marks-then _ _ _ so_far.4 c.judge.ensures.marks,
    )

pub returns-clause-ok : goal.returns-clause-ok
returns-clause-ok g c =
    let so_far = c.loop-piece.invariant in
    let at = c.loop-piece.self in
    let next : LineLoop = record { line = c.extend.new.self; count = at.count; verdict = at.verdict } in
    rest_taken c.args.command g.W.Sink.contents c.args.self.now at next c.args.out.now c.loop-piece.out
    c.args.chunk.now so_far.0 c.loop-piece.rest.now so_far.2 so_far.3 c.in_default.ensures.none c.extend.ensures refl
    refl

pub returns-in_err-judge-clause-marks : goal.returns-in_err-judge-clause-marks
returns-in_err-judge-clause-marks g c = Marks-then _ _ _ c.loop-piece.invariant.4 c.judge.ensures.marks
