use Rattle.ether_arp.proofs.Refusals.{one_hw, decide_hw, one_proto, decide_proto, one_new, decide_new, one_eth_ipv4, decide_eth_ipv4}
use Rattle.ether_arp.proofs.laws.rows_are_apart.Goals as goal

pub returns : goal.returns
returns c = record {
  one_hw = one_hw;
  decided_hw = decide_hw;
  one_proto = one_proto;
  decided_proto = decide_proto;
  one_new = one_new;
  decided_new = decide_new;
  one_eth_ipv4 = one_eth_ipv4;
  decided_eth_ipv4 = decide_eth_ipv4;
}
