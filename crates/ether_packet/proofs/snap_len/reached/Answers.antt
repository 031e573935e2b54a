use Rattle.std.proofs.Common.{arith}
use Rattle.std.specs.Prelude.{None}
use Rattle.ether_peel.specs.Walker.Start.{start_of}
use Rattle.ether_peel.proofs.Walker.UnderWay.{no_none, no_fault}
use Rattle.ether_packet.proofs.ReachLemmas.{reached_first, reached_unit, reached_end}
use Rattle.ether_packet.proofs.snap_len.reached.Goals as goal

pub loop-unit-init : goal.loop-unit-init
loop-unit-init c =
    reached_first (start_of c.args.start) c.args.frame.now c.new-peel.result c.new-peel.ensures.state
    c.new-peel.ensures.walk

pub loop-unit-preserved : goal.loop-unit-preserved
loop-unit-preserved c =
    let gives = rw c.in-Some-Ok.field-0-is at c.in-Some-Ok.ensures.steps in
    rw (c.max-len.ensures, c.unit_end.ensures)
    (reached_unit (start_of c.args.start) c.args.frame.now c.loop-unit.peel c.next.new.self c.loop-unit.len
    c.in-Some-Ok.unit (λ i. omega (arith, c.type_inv.frame i)) c.loop-unit.invariant gives)

pub returns-in-Some-Err-clause-value : goal.returns-in-Some-Err-clause-value
returns-in-Some-Err-clause-value c hs e walk =
    let gives = rw c.in-Some-Err.field-0-is at c.in-Some-Err.ensures.steps in
    reached_end (start_of c.args.start) c.args.frame.now c.loop-unit.peel c.next.new.self _ c.loop-unit.len hs e
    (no_fault c.in-Some-Err.field-0-0) c.loop-unit.invariant gives walk

pub returns-in-None-clause-value : goal.returns-in-None-clause-value
returns-in-None-clause-value c hs e walk =
    reached_end (start_of c.args.start) c.args.frame.now c.loop-unit.peel c.next.new.self None c.loop-unit.len hs e
    no_none c.loop-unit.invariant c.in-None.ensures.steps walk
