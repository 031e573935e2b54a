use Rattle.std.proofs.Common.{◌≡◌, ◌+◌, ◌/◌, length, ap, ◌∙◌, arith, rules}
use Rattle.std.specs.Iterator.{size}
use Rattle.ether_peel.specs.Walker.State.{State}
use Rattle.ether_peel.specs.Walker.Start.{start_of}
use Rattle.ether_peel.specs.Walker.Next.{items_left}
use Rattle.ether_peel.proofs.Walker.UnderWay.{no_none, no_fault}
use Rattle.ether_peel.specs.Walker.UnitHeader.{unit_header}
use Rattle.ether_c.specs.FieldViews.{put_all, c_placed_fields}
use Rattle.ether_c.proofs.UnitsGiven.{UnitGiven, unit_given}
use Rattle.ether_c.proofs.FieldLists.{few_fields}
use Rattle.ether_c.proofs.FieldsGiven.{UnitPlaced, unit_placed, fields_first, fields_unit, fields_last}
use Rattle.ether_c.proofs.fields.fields_walked.Goals as goal
use Rattle.ether_c.proofs.fields.fields_walked.Goals.{In-Some-Ok}

pub loop-unit-init : goal.loop-unit-init
loop-unit-init c =
    let list = c.args.bytes.now in
    let walk = c.new-peel.ensures.walk in
    let going = ap (λ (s : State). s.over) c.new-peel.ensures.state in
    let left : size (items_left c.new-peel.result)
    ≡ length list / 4 + 1 = ap (λ (s : State). size (items_left s)) c.new-peel.ensures.state in (
      omega arith,
      fields_first (start_of c.args.start) list c.new-peel.result c.args.fields.now walk.headers
          walk.ending walk.walk walk.faces going,
    )

-- the unit that is given
given : (c : In-Some-Ok)
    → UnitGiven (start_of c.args.start) c.args.bytes.now c.loop-unit.peel c.next.new.self c.in-Some-Ok.unit
    c.loop-unit.invariant.1.way
given c =
    unit_given (start_of c.args.start) c.args.bytes.now c.loop-unit.peel c.next.new.self c.in-Some-Ok.unit
    c.loop-unit.invariant.1.way (λ i. omega (arith, c.type_inv.bytes i))
    (rw c.in-Some-Ok.field-0-is at c.in-Some-Ok.ensures.steps)

-- .. is in the frame
placed : (c : In-Some-Ok)
    → UnitPlaced c.args.bytes.now c.loop-unit.invariant.1.way.window c.loop-unit.peel c.next.new.self
    c.in-Some-Ok.unit (given c).next.header
placed c =
    unit_placed (start_of c.args.start) c.args.bytes.now c.loop-unit.peel c.next.new.self c.in-Some-Ok.unit
    c.loop-unit.invariant.1.way (given c)

pub put_unit-count-requires-clause-header : goal.put_unit-count-requires-clause-header
put_unit-count-requires-clause-header c =
    let header = (placed (goal.at.put_unit-count-requires-clause-header c).In-Some-Ok).header in
    let from = c.offset-start.ensures.value in
    omega arith

pub put_unit-count-requires-clause-trailer : goal.put_unit-count-requires-clause-trailer
put_unit-count-requires-clause-trailer c =
    let trailer = (placed (goal.at.put_unit-count-requires-clause-trailer c).In-Some-Ok).trailer in
    let to = c.offset.ensures.value in
    let rest = ap length c.rest.ensures in
    omega arith

pub put_unit-count-requires-clause-room : goal.put_unit-count-requires-clause-room
put_unit-count-requires-clause-room c =
    let header = (placed (goal.at.put_unit-count-requires-clause-room c).In-Some-Ok).header in
    let few = few_fields (unit_header c.in-Some-Ok.unit) in
    let before = c.loop-unit.invariant.1.few in
    omega arith

pub loop-unit-preserved : goal.loop-unit-preserved
loop-unit-preserved c =
    let left = c.loop-unit.invariant.0 in
    let nearer = (c.in-Some-Ok.ensures.goes.on (search rules)).2 in
    let from = c.offset-start.ensures.value in
    let to = c.offset.ensures.value in
    let rest = c.rest.ensures in
    let put = c.put_unit-count.ensures.fields
    ∙ (λ i. put_all c.loop-unit.fields c.loop-unit.count
    (c_placed_fields c.args.bytes.now c.loop-unit.index (from i) (to i + length (rest i))
    (unit_header c.in-Some-Ok.unit))) in (
      omega arith,
      fields_unit (start_of c.args.start) c.args.bytes.now c.loop-unit.peel c.next.new.self c.in-Some-Ok.unit
          c.loop-unit.index c.loop-unit.count c.put_unit-count.result
          c.args.fields.now c.loop-unit.fields c.put_unit-count.new.fields c.loop-unit.invariant.1
          (given (goal.at.loop-unit-preserved c).In-Some-Ok) put c.put_unit-count.ensures.next,
    )

pub returns-in-Some-Err : goal.returns-in-Some-Err
returns-in-Some-Err c =
    let gives = rw c.in-Some-Err.field-0-is at c.in-Some-Err.ensures.steps in
    fields_last (start_of c.args.start) c.args.bytes.now c.loop-unit.peel c.next.new.self _ c.loop-unit.index
    c.loop-unit.count c.args.fields.now c.loop-unit.fields c.loop-unit.invariant.1 (no_fault c.in-Some-Err.field-0-0)
    gives

pub returns-in-None : goal.returns-in-None
returns-in-None c =
    fields_last (start_of c.args.start) c.args.bytes.now c.loop-unit.peel c.next.new.self _ c.loop-unit.index
    c.loop-unit.count c.args.fields.now c.loop-unit.fields c.loop-unit.invariant.1 no_none c.in-None.ensures.steps
