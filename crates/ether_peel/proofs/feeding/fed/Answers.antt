use Rattle.std.proofs.Common.{ap, arith}
use Rattle.ether_peel.specs.Walker.Start.{start_with}
use Rattle.ether_peel.specs.Walker.State.{State}
use Rattle.ether_peel.proofs.Walker.Feeding.{FeedsUnit, FeedsFault, FeedsMore, feeds_nothing, offset_inside, feeds_unit, feeds_fault, feeds_more, feed_of_fault, feed_of_none}
use Rattle.ether_peel.proofs.feeding.fed.Goals as goal
use Rattle.ether_peel.proofs.feeding.fed.Goals.{In-Some-Ok, In-Some-Err, After-go_on}

pub loop-fault-init : goal.loop-fault-init
loop-fault-init c =
    let w = c.begin-peel.ensures.walk in
    feeds_nothing (start_with c.args.start c.args.limit) c.args.bytes.now c.begin-peel.result w.headers w.ending w.walk
    w.faces (ap (λ (k : State). k.over) c.begin-peel.ensures.state)

-- the fault that is given
fault : (c : In-Some-Err)
    → FeedsFault (start_with c.args.start c.args.limit) c.args.bytes.now c.loop-fault.peel c.next.new.self
    c.loop-fault.taken c.loop-fault.refusals c.in-Some-Err.fault
fault c =
    feeds_fault (start_with c.args.start c.args.limit) c.args.bytes.now c.loop-fault.peel c.next.new.self
    c.loop-fault.taken c.loop-fault.refusals c.in-Some-Err.fault c.loop-fault.invariant
    (rw c.in-Some-Err.field-0-is at c.in-Some-Err.ensures.steps)

-- the unit that is given
unit : (c : In-Some-Ok)
    → FeedsUnit (start_with c.args.start c.args.limit) c.args.bytes.now c.loop-fault.peel c.next.new.self
    c.loop-fault.taken c.loop-fault.refusals
unit c =
    feeds_unit (start_with c.args.start c.args.limit) c.args.bytes.now c.loop-fault.peel c.next.new.self
    c.loop-fault.taken c.loop-fault.refusals c.in-Some-Ok.field-0-0 c.loop-fault.invariant
    (rw c.in-Some-Ok.field-0-is at c.in-Some-Ok.ensures.steps)

-- the walk goes on after it
more : (c : After-go_on)
    → FeedsFault (start_with c.args.start c.args.limit) c.args.bytes.now c.loop-fault.peel c.next.new.self
    c.loop-fault.taken c.loop-fault.refusals c.in-Some-Err.fault
    → FeedsMore (start_with c.args.start c.args.limit) c.args.bytes.now c.loop-fault.peel c.go_on.new.self
    c.loop-fault.taken c.loop-fault.refusals c.in-Some.length
more c a =
    let names = c.in-Some.ensures in
    feeds_more (start_with c.args.start c.args.limit) c.args.bytes.now c.loop-fault.peel c.next.new.self
    c.go_on.new.self c.loop-fault.taken c.loop-fault.refusals c.in-Some.length c.in-Some-Err.fault
    (λ i. omega (arith, c.type_inv.bytes i)) a names.0 names.1 c.go_on.ensures

pub loop-fault-smaller : goal.loop-fault-smaller
loop-fault-smaller c =
    let m = more c (fault (goal.at.loop-fault-smaller c).In-Some-Err) in
    let above = m.above in
    let stays = m.stays in
    let fits = c.in-Some.ensures.1 in
    let inside =
    offset_inside (start_with c.args.start c.args.limit) c.args.bytes.now c.loop-fault.peel c.loop-fault.taken
    c.loop-fault.refusals c.loop-fault.invariant in
    omega arith

pub loop-fault-preserved-in-Some-Ok : goal.loop-fault-preserved-in-Some-Ok
loop-fault-preserved-in-Some-Ok c = (unit (goal.at.loop-fault-preserved-in-Some-Ok c).In-Some-Ok).feeds

pub loop-fault-preserved : goal.loop-fault-preserved
loop-fault-preserved c = (more c (fault (goal.at.loop-fault-preserved c).In-Some-Err)).feeds

pub returns-in-None-asked_of : goal.returns-in-None-asked_of
returns-in-None-asked_of c =
    feed_of_fault (start_with c.args.start c.args.limit) c.args.bytes.now c.loop-fault.peel c.next.new.self
    c.loop-fault.taken c.loop-fault.refusals c.in-Some-Err.fault (λ i. omega (arith, c.type_inv.bytes i))
    (fault (goal.at.returns-in-None-asked_of c).In-Some-Err) c.in-None-asked_of.ensures

pub returns-in-None : goal.returns-in-None
returns-in-None c =
    feed_of_none (start_with c.args.start c.args.limit) c.args.bytes.now c.loop-fault.peel c.next.new.self
    c.loop-fault.taken c.loop-fault.refusals (λ i. omega (arith, c.type_inv.bytes i)) c.loop-fault.invariant
    c.in-None.ensures.steps
