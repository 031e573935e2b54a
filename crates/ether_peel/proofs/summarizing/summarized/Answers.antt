use Rattle.std.proofs.Common.{◌≡◌, ◌+◌, ◌/◌, length, sym, ap, subst, arith, rules}
use Rattle.std.specs.Iterator.{size}
use Rattle.ether_peel.specs.Walker.State.{State}
use Rattle.ether_peel.specs.Walker.Start.{start_with}
use Rattle.ether_peel.specs.Walker.Next.{items_left}
use Rattle.ether_peel.specs.Walker.Summary.{IsSummary}
use Rattle.ether_peel.proofs.Walker.Summarizing.{walked_start, walked_unit, walked_fault, walked_none}
use Rattle.ether_peel.proofs.summarizing.summarized.Goals as goal

pub loop-units-init : goal.loop-units-init
loop-units-init c =
    let list = c.args.bytes.now in
    let walk = c.begin-peel.ensures.walk in
    let going = ap (λ (s : State). s.over) c.begin-peel.ensures.state in
    let left : size (items_left c.begin-peel.result) ≡ length list / 4 + 1 =
    ap (λ (s : State). size (items_left s)) c.begin-peel.ensures.state in (
      omega arith,
      walked_start (start_with c.args.start c.args.limit) list c.begin-peel.result walk.headers walk.ending walk.walk
          walk.faces going,
    )

pub overflow_add-units : goal.overflow_add-units
overflow_add-units c = let few = c.loop-units.invariant.0 in omega arith

pub loop-units-preserved : goal.loop-units-preserved
loop-units-preserved c =
    let few = c.loop-units.invariant.0 in
    let nearer = (c.in-Some-Ok.ensures.goes.on (search rules)).2 in
    let gives = rw c.in-Some-Ok.field-0-is at c.in-Some-Ok.ensures.steps in (
      omega arith,
      walked_unit (start_with c.args.start c.args.limit) c.args.bytes.now c.loop-units.peel c.next.new.self
          c.loop-units.units c.in-Some-Ok.field-0-0 c.loop-units.invariant.1 gives,
    )

pub returns-in-Some-Err : goal.returns-in-Some-Err
returns-in-Some-Err c =
    let x = start_with c.args.start c.args.limit in
    let gives = rw c.in-Some-Err.field-0-is at c.in-Some-Err.ensures.steps in
    subst (IsSummary x c.args.bytes.now) (sym c.ended.ensures)
    (walked_fault x c.args.bytes.now c.loop-units.peel c.next.new.self c.loop-units.units c.in-Some-Err.fault
    c.loop-units.invariant.1 gives)

pub returns-in-None : goal.returns-in-None
returns-in-None c =
    let x = start_with c.args.start c.args.limit in
    subst (IsSummary x c.args.bytes.now) (sym c.ended-in-None.ensures)
    (walked_none x c.args.bytes.now c.loop-units.peel c.next.new.self c.loop-units.units c.loop-units.invariant.1
    c.in-None.ensures.steps)
