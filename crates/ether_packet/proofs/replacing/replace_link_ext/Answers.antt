use Rattle.etherparse.specs.LinkExt.{ext_header_view}
use Rattle.ether_peel.specs.Walker.Start.{start_of}
use Rattle.ether_packet.proofs.PacketExts.{sendable_ext, is_replaced}
use Rattle.ether_packet.proofs.replacing.replace_link_ext.Goals as goal

pub returns-clause-ok : goal.returns-clause-ok
returns-clause-ok c hs e walk =
    is_replaced (start_of c.args.start) c.args.frame.now c.write_ext.new.target hs e c.args.index c.in_ok-at.at
    (ext_header_view c.args.header.now) (c.in_ok-at.ensures.ok hs e walk) c.write_ext.ensures.fits
    (sendable_ext c.args.header.now) c.write_ext.ensures.bytes walk
