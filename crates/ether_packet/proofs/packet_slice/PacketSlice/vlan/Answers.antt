use Rattle.std.proofs.Common.{◌<◌, length, arith, rules}
use Rattle.ether_packet.specs.Views.{exts_of}
use Rattle.ether_packet.proofs.Getting.{tagged_twice, tagged_all}
use Rattle.ether_packet.proofs.packet_slice.PacketSlice.vlan.Goals as goal

pub returns-in-Some-first : goal.returns-in-Some-first
returns-in-Some-first c =
    let us = c.args.self.now.read.units in
    let lt : c.loop-index.index < length (exts_of us) = let n = c.ext_count-index-end.ensures.value in
    omega arith in
    tagged_twice us c.loop-index.index c.loop-index.first c.tag.result c.in-Some-first.outer c.in-Some.tag
    c.loop-index.invariant lt c.tag.ensures c.in-Some-first.is c.in-Some.is

pub returns-in-Some-first-2 : goal.returns-in-Some-first-2
returns-in-Some-first-2 c = search (rules, tagged_all)

pub returns-in-None-first : goal.returns-in-None-first
returns-in-None-first c = search (rules, tagged_all)
