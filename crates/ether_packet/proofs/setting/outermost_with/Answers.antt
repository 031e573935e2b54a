use Rattle.std.proofs.Common.{arith}
use Rattle.std.specs.Prelude.{None}
use Rattle.ether_peel.specs.Walker.Start.{start_of}
use Rattle.ether_peel.proofs.Walker.UnderWay.{no_none, no_fault}
use Rattle.ether_packet.proofs.FindVlan.{passed_first, passed_unit, passed_tag, passed_end}
use Rattle.ether_packet.proofs.Reached.{index_inside}
use Rattle.ether_packet.proofs.setting.outermost_with.Goals as goal

pub loop-unit-init : goal.loop-unit-init
loop-unit-init c =
    passed_first (start_of c.args.start) c.args.frame.now c.new-peel.result c.args.vlan_id c.new-peel.ensures.state
    c.new-peel.ensures.walk

pub returns-in-Some-clause-found : goal.returns-in-Some-clause-found
returns-in-Some-clause-found c hs e walk =
    let gives = rw c.in-Some-Ok.field-0-is at c.in-Some-Ok.ensures.steps in
    passed_tag (start_of c.args.start) c.args.frame.now c.loop-unit.peel c.next.new.self hs e c.args.vlan_id
    c.loop-unit.index c.in-Some-Ok.unit
    (record { at = c.offset-at.result; tag = c.in-Some.tag }) (λ i. omega (arith, c.type_inv.frame i))
    c.loop-unit.invariant gives walk c.in-Some.ensures.0 c.in-Some.ensures.1 c.offset-at.ensures.value

pub overflow_add-index : goal.overflow_add-index
overflow_add-index c =
    let gives = rw c.in-Some-Ok.field-0-is at c.in-Some-Ok.ensures.steps in
    let inside =
    index_inside (start_of c.args.start) c.args.frame.now c.loop-unit.peel c.next.new.self c.loop-unit.index
    c.in-Some-Ok.unit (λ i. omega (arith, c.type_inv.frame i)) c.loop-unit.invariant.reached gives in
    omega (arith, inside, c.ext_count-index.ensures, c.offset-at.ensures.fits)

pub loop-unit-preserved : goal.loop-unit-preserved
loop-unit-preserved c =
    let gives = rw c.in-Some-Ok.field-0-is at c.in-Some-Ok.ensures.steps in
    rw c.ext_count-index.ensures
    (passed_unit (start_of c.args.start) c.args.frame.now c.loop-unit.peel c.next.new.self c.args.vlan_id
    c.loop-unit.index c.in-Some-Ok.unit (λ i. omega (arith, c.type_inv.frame i)) c.loop-unit.invariant gives
    c.in-None-tag_with.ensures)

pub returns-in-Some-Err-clause-none : goal.returns-in-Some-Err-clause-none
returns-in-Some-Err-clause-none c hs e walk =
    let gives = rw c.in-Some-Err.field-0-is at c.in-Some-Err.ensures.steps in
    passed_end (start_of c.args.start) c.args.frame.now c.loop-unit.peel c.next.new.self _ hs e c.args.vlan_id
    c.loop-unit.index (no_fault c.in-Some-Err.field-0-0) c.loop-unit.invariant gives walk

pub returns-in-None-clause-none : goal.returns-in-None-clause-none
returns-in-None-clause-none c hs e walk =
    passed_end (start_of c.args.start) c.args.frame.now c.loop-unit.peel c.next.new.self None hs e c.args.vlan_id
    c.loop-unit.index no_none c.loop-unit.invariant c.in-None.ensures.steps walk
