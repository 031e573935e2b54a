use Rattle.ether_packet.specs.Packet.{packet_start}
use Rattle.ether_packet.proofs.PacketArp.{is_replaced}
use Rattle.ether_packet.proofs.replacing_arp.replace_arp.Goals as goal

pub returns-clause-ok : goal.returns-clause-ok
returns-clause-ok c hs e walk =
    is_replaced (packet_start c.args.start) c.args.frame.now c.write_arp.new.target hs e c.args.packet.now
    c.write_arp.result c.in_ok-end.end (c.in_ok-end.ensures.ok hs e walk) c.write_arp.ensures.fits
    c.write_arp.ensures.start c.write_arp.ensures.bytes walk
