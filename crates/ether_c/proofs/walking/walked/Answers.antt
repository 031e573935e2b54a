use Rattle.std.proofs.Common.{◌≡◌, ◌+◌, ◌/◌, length, ap, sym, subst, arith, rules}
use Rattle.std.specs.Iterator.{size}
use Rattle.ether_peel.specs.Walker.State.{State}
use Rattle.ether_peel.specs.Walker.Start.{start_with}
use Rattle.ether_peel.specs.Walker.Next.{items_left}
use Rattle.ether_peel.proofs.Walker.UnderWay.{no_none, no_fault}
use Rattle.ether_peel.proofs.Walker.Summarizing.{walked_start, walked_unit, walked_fault, walked_none}
use Rattle.ether_peel.specs.Walker.Summary.{IsSummary}
use Rattle.ether_peel.specs.declared.walk_summary.Summary.{Summary}
use Rattle.ether_c.specs.Views.{c_view}
use Rattle.ether_c.specs.Walk.{GivesUnits}
use Rattle.ether_c.proofs.UnitsGiven.{UnitGiven, unit_given, gives_first, gives_unit, gives_last}
use Rattle.ether_c.proofs.walking.walked.Goals as goal
use Rattle.ether_c.proofs.walking.walked.Goals.{In-Some-Ok}

pub loop-unit-init : goal.loop-unit-init
loop-unit-init c =
    let list = c.args.bytes.now in
    let walk = c.begun_walk-peel.ensures.walk in
    let going = ap (λ (s : State). s.over) c.begun_walk-peel.ensures.state in
    let left : size (items_left c.begun_walk-peel.result)
    ≡ length list / 4 + 1 = ap (λ (s : State). size (items_left s)) c.begun_walk-peel.ensures.state in (
      omega arith,
      gives_first (start_with c.args.start c.args.limit) list c.begun_walk-peel.result c.args.units.now
          walk.headers walk.ending walk.walk walk.faces going,
      walked_start (start_with c.args.start c.args.limit) list c.begun_walk-peel.result walk.headers walk.ending
          walk.walk walk.faces going,
    )

-- the unit that is given
given : (c : In-Some-Ok)
    → UnitGiven (start_with c.args.start c.args.limit) c.args.bytes.now c.loop-unit.peel c.next.new.self
    c.in-Some-Ok.unit c.loop-unit.invariant.1.way
given c =
    unit_given (start_with c.args.start c.args.limit) c.args.bytes.now c.loop-unit.peel c.next.new.self
    c.in-Some-Ok.unit c.loop-unit.invariant.1.way (λ i. omega (arith, c.type_inv.bytes i))
    (rw c.in-Some-Ok.field-0-is at c.in-Some-Ok.ensures.steps)

pub put-requires : goal.put-requires
put-requires c =
    let after = (given (goal.at.put-requires c).In-Some-Ok).after in
    let from = c.offset-offset.ensures.value in
    let to = c.offset.ensures.value in
    omega arith

pub loop-unit-preserved : goal.loop-unit-preserved
loop-unit-preserved c =
    let few = c.loop-unit.invariant.0 in
    let nearer = (c.in-Some-Ok.ensures.goes.on (search rules)).2 in
    let from = c.offset-offset.ensures.value in
    let to = c.offset.ensures.value in
    let again = c.offset-in-Some-Ok.ensures.value in
    let rest = c.rest.ensures in
    let mark = c.closed.ensures in
    let s = c.loop-unit.peel in
    let t = c.next.new.self in
    let u = c.in-Some-Ok.unit in
    let shown : c_view u c.offset-offset.result c.offset.result (c.offset-in-Some-Ok.result + length c.rest.result.now)
    c.closed.result ≡ c_view u s.offset t.offset (t.offset + length t.rest) t.closed =
    λ i. c_view u (from i) (to i) (again i + length (rest i)) (mark i) in
    let gives = rw c.in-Some-Ok.field-0-is at c.in-Some-Ok.ensures.steps in (
      omega arith,
      gives_unit (start_with c.args.start c.args.limit) c.args.bytes.now c.loop-unit.peel c.next.new.self
          c.in-Some-Ok.unit c.loop-unit.count c.args.units.now c.loop-unit.units c.put.new.units _
          c.loop-unit.invariant.1 (given (goal.at.loop-unit-preserved c).In-Some-Ok) shown c.put.ensures,
      walked_unit (start_with c.args.start c.args.limit) c.args.bytes.now c.loop-unit.peel c.next.new.self
          c.loop-unit.count c.in-Some-Ok.unit c.loop-unit.invariant.2 gives,
    )

pub returns-in-Some-Err-clause-units : goal.returns-in-Some-Err-clause-units
returns-in-Some-Err-clause-units c =
    let gives = rw c.in-Some-Err.field-0-is at c.in-Some-Err.ensures.steps in
    let x = start_with c.args.start c.args.limit in
    subst
    (λ (s : Summary). GivesUnits x c.args.bytes.now c.args.units.now c.loop-unit.units s.units)
    (sym c.ended.ensures)
    (gives_last x c.args.bytes.now c.loop-unit.peel c.next.new.self _ c.loop-unit.count c.args.units.now
    c.loop-unit.units c.loop-unit.invariant.1 (no_fault c.in-Some-Err.fault) gives)

pub returns-in-Some-Err-clause-summary : goal.returns-in-Some-Err-clause-summary
returns-in-Some-Err-clause-summary c =
    let x = start_with c.args.start c.args.limit in
    let gives = rw c.in-Some-Err.field-0-is at c.in-Some-Err.ensures.steps in
    subst (IsSummary x c.args.bytes.now) (sym c.ended.ensures)
    (walked_fault x c.args.bytes.now c.loop-unit.peel c.next.new.self c.loop-unit.count c.in-Some-Err.fault
    c.loop-unit.invariant.2 gives)

pub returns-in-None-clause-units : goal.returns-in-None-clause-units
returns-in-None-clause-units c =
    let x = start_with c.args.start c.args.limit in
    subst
    (λ (s : Summary). GivesUnits x c.args.bytes.now c.args.units.now c.loop-unit.units s.units)
    (sym c.ended-in-None.ensures)
    (gives_last x c.args.bytes.now c.loop-unit.peel c.next.new.self _ c.loop-unit.count c.args.units.now
    c.loop-unit.units c.loop-unit.invariant.1 no_none c.in-None.ensures.steps)

pub returns-in-None-clause-summary : goal.returns-in-None-clause-summary
returns-in-None-clause-summary c =
    let x = start_with c.args.start c.args.limit in
    subst (IsSummary x c.args.bytes.now) (sym c.ended-in-None.ensures)
    (walked_none x c.args.bytes.now c.loop-unit.peel c.next.new.self c.loop-unit.count c.loop-unit.invariant.2
    c.in-None.ensures.steps)
