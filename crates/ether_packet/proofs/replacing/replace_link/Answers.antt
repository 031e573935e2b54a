use Rattle.ether_peel.specs.Walker.Start.{start_with}
use Rattle.ether_packet.proofs.Links.{is_link_replaced}
use Rattle.ether_packet.proofs.replacing.replace_link.Goals as goal

pub returns-clause-ok : goal.returns-clause-ok
returns-clause-ok c limit hs e walk =
    is_link_replaced (start_with c.args.start limit) c.args.frame.now c.write_link_header.new.target hs e
    c.args.header.now (c.in_ok-require_link.ensures.ok limit hs e walk) c.in_ok-require_link.ensures.room
    c.write_link_header.ensures.fits c.write_link_header.ensures.packet_type c.write_link_header.ensures.bytes walk
