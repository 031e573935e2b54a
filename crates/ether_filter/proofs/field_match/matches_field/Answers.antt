use Rattle.std.proofs.Common.{arith}
use Rattle.ether_filter.proofs.FieldLooking.{looks_first, looks_next, looks_fault, looks_none}
use Rattle.ether_filter.proofs.field_match.matches_field.Goals as goal

pub loop-unit-init : goal.loop-unit-init
loop-unit-init c =
    looks_first c.args.test c.args.start c.args.frame.now c.new-peel.result c.new-peel.ensures.state
    c.new-peel.ensures.walk

pub loop-unit-preserved : goal.loop-unit-preserved
loop-unit-preserved c =
    let gives = rw c.in-Some-Ok.field-0-is at c.in-Some-Ok.ensures.steps in
    looks_next c.args.test c.args.start c.args.frame.now c.loop-unit.peel c.next.new.self c.in-Some-Ok.unit
    c.unit_hit.result c.loop-unit.found c.after-found.result (λ i. omega (arith, c.type_inv.frame i))
    c.loop-unit.invariant
    gives c.unit_hit.ensures c.after-found.ensures

pub returns-in-Some-Err : goal.returns-in-Some-Err
returns-in-Some-Err c hs e walk =
    let gives = rw c.in-Some-Err.field-0-is at c.in-Some-Err.ensures.steps in
    looks_fault c.args.test c.args.start c.args.frame.now c.loop-unit.peel c.next.new.self
    c.in-Some-Err.field-0-0 c.loop-unit.found c.answer.result c.loop-unit.invariant gives c.answer.ensures hs e walk

pub returns-in-None : goal.returns-in-None
returns-in-None c hs e walk =
    looks_none c.args.test c.args.start c.args.frame.now c.loop-unit.peel c.next.new.self c.loop-unit.found
    c.answer-in-None.result c.loop-unit.invariant c.in-None.ensures.steps c.answer-in-None.ensures hs e walk
