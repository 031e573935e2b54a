use Rattle.etherparse.specs.LinkExt.{ext_header_view}
use Rattle.ether_packet.proofs.PacketExts.{found_other, found_none}
use Rattle.ether_packet.proofs.replacing.find_ext.Goals as goal

pub returns-in-Some-clause-refused : goal.returns-in-Some-clause-refused
returns-in-Some-clause-refused c hs e walk =
    found_other hs c.args.index c.in-Ok.found (ext_header_view c.args.header.now) c.in-Some.difference
    (c.in-Ok.ensures.ok hs e walk) c.in-Some.ensures.some

pub returns-in-Err-clause-refused : goal.returns-in-Err-clause-refused
returns-in-Err-clause-refused c hs e walk =
    found_none hs c.args.index c.in-Err.count (ext_header_view c.args.header.now) (c.in-Err.ensures.none hs e walk)
