use Rattle.std.proofs.Common.{rules}
use Rattle.std.proofs.lemmas.List.{length-drop}
use Rattle.ether_packet.proofs.Chains.{counted_next, counted_all, packet_len_is, read_next, content_short, is_chain, is_sealed}
use Rattle.ether_packet.proofs.packet_builder.PacketBuilder.readable_len.Goals.{else-not-is_readable_ext-via-then-not-is_readable_ext+else-is_followed, else-not-is_readable_ext-via-else-not-is_readable_ext}
use Rattle.ether_packet.proofs.packet_builder.PacketBuilder.readable_len.Goals as goal

pub returns-then-is_followed-clause-sealed : goal.returns-then-is_followed-clause-sealed
returns-then-is_followed-clause-sealed c = search (rules, is_sealed, length-drop)

pub loop-i-preserved : goal.loop-i-preserved
loop-i-preserved c = search (rules, counted_next, read_next)

pub returns-clause-len : goal.returns-clause-len
returns-clause-len c = search (rules, counted_all, packet_len_is)

pub returns-clause-chain : goal.returns-clause-chain
returns-clause-chain c = search (rules, content_short, is_chain, length-drop)
