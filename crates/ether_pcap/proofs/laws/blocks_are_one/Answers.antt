use Rattle.ether_pcap.proofs.Blocks.{block_one, block_apart, block_refusal_one}
use Rattle.ether_pcap.proofs.laws.blocks_are_one.Goals as goal

pub returns : goal.returns
returns c = record { one = block_one; apart = block_apart; refused = block_refusal_one }
