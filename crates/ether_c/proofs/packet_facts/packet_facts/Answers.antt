use Rattle.std.proofs.Common.{rules}
use Rattle.ether_c.proofs.PacketGiven.{facts_tag, facts_other}
use Rattle.ether_c.proofs.packet_facts.packet_facts.Goals as goal

pub loop-unit-preserved : goal.loop-unit-preserved
loop-unit-preserved c = search (rules, facts_tag, facts_other)
