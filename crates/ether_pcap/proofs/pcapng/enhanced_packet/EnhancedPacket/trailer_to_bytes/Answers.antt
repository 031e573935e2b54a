use Rattle.std.proofs.Common.{rules}
use Rattle.ether_pcap.proofs.WrittenBlocks.{written_modulo}
use Rattle.ether_pcap.proofs.pcapng.enhanced_packet.EnhancedPacket.trailer_to_bytes.Goals as goal

pub returns : goal.returns
returns c = search (rules, written_modulo)
