use Rattle.std.proofs.Common.{◌≡◌, ℕ, ◌+◌, List, ◌++◌, length, Bool, ap, subst, ◌∙◌, arith}
use Rattle.std.specs.Prelude.{codes}
use Rattle.ether_peel.specs.Walker.Start.{start_with}
use Rattle.ether_peel.specs.declared.peel_fault.PeelFault.{PeelFault}
use Rattle.ether_output.specs.OutputBuffer.{Takes}
use Rattle.ether_text.specs.ViewLines.{view_text, rest_view_text, fault_view_text}
use Rattle.ether_text.proofs.WalkLinesLemmas.{fault_after, walk_starts, walk_unit, walk_fault, walk_rest}
use Rattle.ether_text.proofs.walk_lines.write_walk_after.Goals as goal

pub loop-unit-init : goal.loop-unit-init
loop-unit-init g c =
    let (headers, ending, walk, faces) = c.walker-peel.ensures.walk in
    walk_starts g.W.Sink.contents g.W.Sink.can_fail c.args.header_len (start_with c.args.start c.args.limit)
    c.args.frame.now
    c.walker-peel.result c.args.out.now headers ending walk faces c.walker-peel.ensures.going

pub loop-unit-preserved : goal.loop-unit-preserved
loop-unit-preserved g c =
    let contents = g.W.Sink.contents in
    let can_fail = g.W.Sink.can_fail in
    let u = c.in-Some-Ok.unit in
    let gives = rw c.in-Some-Ok.field-0-is at c.in-Some-Ok.ensures.steps in
    let s = c.next.new.self in
    let len = ap length c.rest.ensures in
    let place : c.from-at.result + c.offset.result ≡ c.args.header_len + c.loop-unit.peel.offset =
    λ i. c.from-at.ensures i + c.offset.ensures.value i in
    let at = c.args.header_len + c.loop-unit.peel.offset in
    let same =
    ap (λ (n : ℕ). view_text n (length c.rest.result.now) c.closed.result u) place
    ∙ ap (λ (n : ℕ). view_text at n c.closed.result u) len
    ∙ ap (λ (b : Bool). view_text at (length s.rest) b u) c.closed.ensures in
    let line =
    subst (λ (l : List ℕ). Takes contents can_fail c.loop-unit.out (l ++ codes "\n") c.write_unit.new.out) same
    c.write_unit.ensures in
    walk_unit contents can_fail c.args.header_len (start_with c.args.start c.args.limit) c.args.frame.now
    c.loop-unit.peel c.next.new.self c.args.out.now c.loop-unit.out c.write_unit.new.out u
    (λ i. omega (arith, c.type_inv.frame i)) c.loop-unit.invariant gives line

pub returns-in-Some-Err : goal.returns-in-Some-Err
returns-in-Some-Err g c =
    let gives = rw c.in-Some-Err.field-0-is at c.in-Some-Err.ensures.steps in
    let same : c.after.result ≡ fault_after c.args.header_len c.in-Some-Err.fault =
    c.after.ensures
    ∙ ap (λ (n : ℕ). record c.in-Some-Err.fault { offset = n + c.in-Some-Err.fault.offset }) c.from-at.ensures in
    let line =
    subst
    (λ (f : PeelFault).
    Takes g.W.Sink.contents g.W.Sink.can_fail c.loop-unit.out (fault_view_text f ++ codes "\n")
    c.write_fault.new.out)
    same c.write_fault.ensures in
    walk_fault g.W.Sink.contents g.W.Sink.can_fail c.args.header_len (start_with c.args.start c.args.limit)
    c.args.frame.now c.loop-unit.peel c.next.new.self c.args.out.now c.loop-unit.out c.write_fault.new.out
    c.in-Some-Err.fault c.loop-unit.invariant gives line

pub returns-in-None : goal.returns-in-None
returns-in-None g c =
    let contents = g.W.Sink.contents in
    let can_fail = g.W.Sink.can_fail in
    let k = c.kind.result in
    let place : c.from-at.result + c.offset.result ≡ c.args.header_len + c.loop-unit.peel.offset =
    λ i. c.from-at.ensures i + c.offset.ensures.value i in
    let end = c.from-at.result + c.offset.result + length c.rest-in-None.result.now in
    let line =
    subst
    (λ (n : ℕ).
    Takes contents can_fail c.loop-unit.out (rest_view_text n end k ++ codes "\n") c.write_rest.new.out)
    place c.write_rest.ensures in
    let left = ap length c.rest-in-None.ensures in
    let to : end ≡ c.args.header_len + (c.loop-unit.peel.offset + length c.next.new.self.rest) =
    omega (arith, place, left) in
    walk_rest contents can_fail c.args.header_len (start_with c.args.start c.args.limit) c.args.frame.now
    c.loop-unit.peel c.next.new.self c.args.out.now c.loop-unit.out c.write_rest.new.out end k c.loop-unit.invariant
    c.in-None.ensures.steps to c.kind.ensures line
