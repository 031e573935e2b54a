use Rattle.ether_pcap.proofs.Bodies.{interface_one, interface_apart, interface_refused, enhanced_one, enhanced_apart, enhanced_refused, simple_one, simple_apart, simple_refused}
use Rattle.ether_pcap.proofs.laws.bodies_are_one.Goals as goal

pub returns : goal.returns
returns c = record {
  interface = interface_one;
  interface_apart = interface_apart;
  interface_refused = interface_refused;
  enhanced = enhanced_one;
  enhanced_apart = enhanced_apart;
  enhanced_refused = enhanced_refused;
  simple = simple_one;
  simple_apart = simple_apart;
  simple_refused = simple_refused;
}
