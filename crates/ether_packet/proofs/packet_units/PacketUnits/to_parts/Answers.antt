use Rattle.std.proofs.Common.{rules}
use Rattle.ether_packet.proofs.Parts.{three_values, shape, without_link}
use Rattle.ether_packet.proofs.packet_units.PacketUnits.to_parts.Goals as goal

pub returns-in_err-link : goal.returns-in_err-link
returns-in_err-link c = search (rules, without_link)

pub returns : goal.returns
returns c = search (rules, three_values, shape)
