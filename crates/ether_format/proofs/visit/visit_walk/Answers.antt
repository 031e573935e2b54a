use Rattle.std.proofs.Common.{◌+◌, length, ap, arith}
use Rattle.ether_peel.specs.Walker.Start.{start_with}
use Rattle.ether_peel.proofs.Walker.UnderWay.{passes}
use Rattle.ether_format.proofs.VisitLemmas.{same_end, visit_starts, visit_unit}
use Rattle.ether_format.proofs.visit.visit_walk.Goals as goal

pub loop-unit-init : goal.loop-unit-init
loop-unit-init g c =
    let walk = c.walker-peel.ensures.walk in
    visit_starts g.V.Visitor.takes c.args.header_len (start_with c.args.start c.args.limit) c.args.frame.now
    c.args.visitor.now c.args.target.now c.walker-peel.result walk.headers walk.ending walk.walk walk.faces
    c.walker-peel.ensures.going

pub overflow_add-found : goal.overflow_add-found
overflow_add-found g c =
    let x = start_with c.args.start c.args.limit in
    let way = c.loop-unit.invariant.way in
    let gives = rw c.in-Some-Ok.field-0-is at c.in-Some-Ok.ensures.steps in
    let n = passes x c.args.frame.now c.loop-unit.peel c.next.new.self c.in-Some-Ok.unit way gives in
    let end = same_end c.args.frame.now _ c.next.new.self n.later way.ending n.faces in
    let inside = n.faces.inside.inside in
    let at = c.from-at.ensures in
    let middle = c.offset-in-Some-Ok.ensures.value in
    let left = ap length c.rest.ensures in
    omega arith

pub loop-unit-preserved : goal.loop-unit-preserved
loop-unit-preserved g c =
    let gives = rw c.in-Some-Ok.field-0-is at c.in-Some-Ok.ensures.steps in
    let at = c.from-at.ensures in
    let begin = c.offset.ensures.value in
    let middle = c.offset-in-Some-Ok.ensures.value in
    let left = ap length c.rest.ensures in
    visit_unit g.V.Visitor.takes c.args.header_len (start_with c.args.start c.args.limit) c.args.frame.now
    c.args.visitor.now c.args.target.now c.loop-unit.peel c.next.new.self c.loop-unit.visitor c.loop-unit.target
    c.header.new.self c.header.new.target c.in-Some-Ok.unit _ (λ i. omega (arith, c.type_inv.frame i))
    c.loop-unit.invariant gives (λ i. at i + begin i) (λ i. at i + middle i) (omega (arith, at, middle, left))
    c.closed.ensures c.header.ensures
