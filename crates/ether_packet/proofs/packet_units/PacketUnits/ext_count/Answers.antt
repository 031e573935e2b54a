use Rattle.std.proofs.Common.{rules}
use Rattle.std.proofs.lemmas.List.{length-map}
use Rattle.ether_packet.proofs.Places.{exts_at}
use Rattle.ether_packet.proofs.packet_units.PacketUnits.ext_count.Goals as goal

pub returns-clause-value : goal.returns-clause-value
returns-clause-value c = search (rules, exts_at, length-map)
