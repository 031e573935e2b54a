use Rattle.std.proofs.Common.{rules}
use Rattle.ether_c.proofs.CapturedGiven.{captured_first, captured_packet, captured_fault, captured_none}
use Rattle.ether_c.proofs.capturing.captured.Goals as goal

pub loop-packet-init : goal.loop-packet-init
loop-packet-init c = search (rules, captured_first)

pub loop-packet-preserved : goal.loop-packet-preserved
loop-packet-preserved c = search (rules, captured_packet)

pub returns-in-Some-Err : goal.returns-in-Some-Err
returns-in-Some-Err c =
    let gives = rw c.in-Some-Err.field-0-is at c.in-Some-Err.ensures.steps in
    captured_fault c.args.file.now c.loop-packet.reader c.next.new.self c.in-Some-Err.fault c.loop-packet.count
    c.args.packets.now c.loop-packet.packets c.loop-packet.invariant.1 gives

pub returns-in-None : goal.returns-in-None
returns-in-None c =
    captured_none c.args.file.now c.loop-packet.reader c.next.new.self c.loop-packet.count c.args.packets.now
    c.loop-packet.packets c.loop-packet.invariant.1 c.in-None.ensures.steps
