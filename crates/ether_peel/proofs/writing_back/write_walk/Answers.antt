use Rattle.std.proofs.Common.{ℕ, sym, subst, ap, ◌∙◌, arith, rules}
use Rattle.ether_peel.specs.Walker.Start.{start_with}
use Rattle.ether_peel.specs.Walker.State.{State}
use Rattle.ether_peel.proofs.Walker.UnderWay.{Stops, stops}
use Rattle.ether_peel.proofs.Walker.WritingBack.{WritesSoFar, NextAt, writes_first, next_at, writes_next, rest_ends, writes_back}
use Rattle.ether_peel.proofs.writing_back.write_walk.Goals as goal
use Rattle.ether_peel.proofs.writing_back.write_walk.Goals.{In-Some-Ok, After-rest-rest, in_default, in_default-2}

pub loop-unit-init : goal.loop-unit-init
loop-unit-init c =
    let w = c.begin-peel.ensures.walk in
    writes_first (start_with c.args.start c.args.limit) c.args.bytes.now c.begin-peel.result c.args.target.now w.headers
    w.ending w.walk w.faces (ap (λ (k : State). k.over) c.begin-peel.ensures.state)

-- the unit that is given
next : (c : In-Some-Ok)
    → NextAt (start_with c.args.start c.args.limit) c.args.bytes.now c.loop-unit.peel c.next.new.self c.in-Some-Ok.unit
    c.loop-unit.at c.args.target.now c.loop-unit.target c.loop-unit.invariant.under_way
next c =
    let gives = rw c.in-Some-Ok.field-0-is at c.in-Some-Ok.ensures.steps in
    next_at (start_with c.args.start c.args.limit) c.args.bytes.now c.loop-unit.peel c.next.new.self c.in-Some-Ok.unit
    c.loop-unit.at c.args.target.now c.loop-unit.target (λ i. omega (arith, c.type_inv.bytes i)) c.requires
    c.loop-unit.auto.target c.loop-unit.invariant gives

pub write_header-requires : goal.write_header-requires
write_header-requires c = (next (goal.at.write_header-requires c).In-Some-Ok).room

pub loop-unit-preserved : goal.loop-unit-preserved
loop-unit-preserved c =
    let x = start_with c.args.start c.args.limit in
    let list = c.args.bytes.now in
    let t = c.next.new.self in
    let old = c.args.target.now in
    let new = c.write_header.new.target in
    let is =
    writes_next x list c.loop-unit.peel t c.in-Some-Ok.unit c.loop-unit.at old c.loop-unit.target new
    c.loop-unit.invariant (next (goal.at.loop-unit-preserved c).In-Some-Ok) c.write_header.ensures in
    subst (λ (n : ℕ). WritesSoFar x list t n old new) (sym c.offset-at.ensures.value) is

-- no unit is given
end : (c : After-rest-rest)
    → Stops (start_with c.args.start c.args.limit) c.args.bytes.now c.loop-unit.peel c.next.new.self
    c.loop-unit.invariant.under_way
end c =
    stops (start_with c.args.start c.args.limit) c.args.bytes.now c.loop-unit.peel c.next.new.self c.next.result
    c.loop-unit.invariant.under_way (elim c.match-next.branch [
      | in_default w ↦ λ u e. search (rules, w, e)
      | in_default-2 w ↦ λ u e. let f = sym w.in_default.is ∙ e in cc
    ]) c.next.ensures.steps

pub write_at-requires : goal.write_at-requires
write_at-requires c =
    let a = c.loop-unit.invariant in
    let p = end (goal.at.write_at-requires c).After-rest-rest in
    let ends =
    rest_ends (start_with c.args.start c.args.limit) c.args.bytes.now c.loop-unit.peel c.next.new.self
    c.loop-unit.at c.args.target.now c.loop-unit.target c.rest-rest.result.now a p c.rest-rest.ensures in
    let fits = c.requires a.under_way.done a.under_way.ending p.walk in
    omega (arith, c.loop-unit.auto.target)

pub returns : goal.returns
returns c =
    writes_back (start_with c.args.start c.args.limit) c.args.bytes.now c.loop-unit.peel c.next.new.self c.loop-unit.at
    c.args.target.now c.loop-unit.target c.rest-rest.result.now c.write_at.new.target
    (λ i. omega (arith, c.type_inv.bytes i)) c.requires c.loop-unit.invariant
    (end (goal.at.returns c).After-rest-rest) c.rest-rest.ensures c.write_at.ensures
