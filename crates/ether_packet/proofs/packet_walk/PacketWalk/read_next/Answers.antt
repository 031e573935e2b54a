use Rattle.std.proofs.Common.{ℕ, List, rules}
use Rattle.ether_peel.specs.Grammar.Expectation.{Expectation}
use Rattle.ether_packet.specs.Gathered.{UnderWay}
use Rattle.ether_packet.proofs.Gathering.{NextOf, next_of, fits, readable, gathered_next, fewer_come}
use Rattle.ether_packet.proofs.packet_walk.PacketWalk.read_next.Goals as goal
use Rattle.ether_packet.proofs.packet_walk.PacketWalk.read_next.Goals.{In-Some-Ok}

-- the unit that is given
next : (c : In-Some-Ok) (start : Expectation) (list : List ℕ) (w : UnderWay start list c.args.self.now)
    → NextOf start list c.args.self.now.peel c.next.new.self c.args.self.now.read c.in-Some-Ok.unit w.gathered
next c start list w =
    let gives = rw c.in-Some-Ok.field-0-is at c.in-Some-Ok.ensures.steps in
    next_of start list c.args.self.now.peel c.next.new.self c.args.self.now.read c.in-Some-Ok.unit w.bytes w.gathered
    gives

pub add-requires-clause-fits : goal.add-requires-clause-fits
add-requires-clause-fits c =
    let (start, list, w) = c.requires in
    fits start list c.args.self.now.peel c.next.new.self c.args.self.now.read
    (record { start = c.offset.result; bytes = c.rest.result }) c.in-Some-Ok.unit w.gathered
    (next (goal.at.add-requires-clause-fits c).In-Some-Ok start list w)
    (record { start = c.offset.ensures.value; bytes = c.rest.ensures })

pub add-requires-clause-readable : goal.add-requires-clause-readable
add-requires-clause-readable c =
    let (start, list, w) = c.requires in
    readable start list c.args.self.now.peel c.next.new.self c.args.self.now.read
    (record { start = c.offset.result; bytes = c.rest.result }) c.in-Some-Ok.unit w.gathered
    (next (goal.at.add-requires-clause-readable c).In-Some-Ok start list w)
    (record { start = c.offset.ensures.value; bytes = c.rest.ensures })

pub returns-in-Some-Ok : goal.returns-in-Some-Ok
returns-in-Some-Ok c start list w =
    let n = next (goal.at.returns-in-Some-Ok c).In-Some-Ok start list w in search (rules, gathered_next, fewer_come)
