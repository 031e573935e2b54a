use Rattle.std.proofs.Common.{rules}
use Rattle.ether_packet.proofs.Getting.{sec_tag_first, sec_tag_none}
use Rattle.ether_packet.proofs.packet_slice.PacketSlice.macsec.Goals as goal

pub returns-in-Some : goal.returns-in-Some
returns-in-Some c = search (rules, sec_tag_first)

pub returns : goal.returns
returns c = search (rules, sec_tag_none)
