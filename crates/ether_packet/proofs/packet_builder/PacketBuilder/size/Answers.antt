use Rattle.std.proofs.Common.{rules}
use Rattle.ether_packet.proofs.Chains.{counted_next, counted_all, packet_len_is}
use Rattle.ether_packet.proofs.packet_builder.PacketBuilder.size.Goals as goal

pub loop-ext-init : goal.loop-ext-init
loop-ext-init c = search rules

pub overflow_add-len-in-loop-ext : goal.overflow_add-len-in-loop-ext
overflow_add-len-in-loop-ext c = search rules

pub loop-ext-preserved : goal.loop-ext-preserved
loop-ext-preserved c = search (rules, counted_next)

pub returns : goal.returns
returns c = search (rules, counted_all, packet_len_is)
