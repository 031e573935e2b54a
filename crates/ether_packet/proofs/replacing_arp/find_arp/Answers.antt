use Rattle.std.proofs.Common.{sym, ◌∙◌}
use Rattle.ether_packet.specs.Packet.{packet_start}
use Rattle.ether_packet.proofs.PacketArp.{found_takes, found_room, found_inside, found_other, found_none}
use Rattle.ether_packet.proofs.replacing_arp.find_arp.Goals as goal

pub returns-in_default-clause-refused : goal.returns-in_default-clause-refused
returns-in_default-clause-refused c hs e walk =
    found_none (packet_start c.args.start) c.args.frame.now c.from_slice-read.result c.args.packet.now hs e
    c.from_slice-read.ensures.packet (sym c.arp.ensures ∙ c.in_default.is) walk

pub returns-in-None-clause-ok : goal.returns-in-None-clause-ok
returns-in-None-clause-ok c hs e walk =
    found_takes (packet_start c.args.start) c.args.frame.now c.from_slice-read.result c.in-Some.old c.args.packet.now hs
    e c.from_slice-read.ensures.packet (sym c.arp.ensures ∙ c.in-Some.is) (c.arp_difference.ensures.none c.in-None.is)
    walk

pub returns-in-None-clause-room : goal.returns-in-None-clause-room
returns-in-None-clause-room c =
    found_room (packet_start c.args.start) c.args.frame.now c.from_slice-read.result c.in-Some.old c.args.packet.now
    c.from_slice-read.ensures.packet (sym c.arp.ensures ∙ c.in-Some.is) (c.arp_difference.ensures.none c.in-None.is)

pub returns-in-None-clause-inside : goal.returns-in-None-clause-inside
returns-in-None-clause-inside c =
    found_inside (packet_start c.args.start) c.args.frame.now c.from_slice-read.result c.in-Some.old
    c.from_slice-read.ensures.packet (sym c.arp.ensures ∙ c.in-Some.is)

pub returns-in-Some-arp_difference-clause-refused : goal.returns-in-Some-arp_difference-clause-refused
returns-in-Some-arp_difference-clause-refused c hs e walk =
    found_other (packet_start c.args.start) c.args.frame.now c.from_slice-read.result c.in-Some.old c.args.packet.now hs
    e c.from_slice-read.ensures.packet (sym c.arp.ensures ∙ c.in-Some.is) c.in-Some-arp_difference.difference
    c.in-Some-arp_difference.ensures.some walk
