use Rattle.ether_arp.proofs.Reading.{arp_means, arp_begins_accepted, arp_fits}
use Rattle.ether_arp.proofs.Writing.{arp_bytes_are_bytes}
use Rattle.ether_arp.proofs.laws.packets_are_meant.Goals as goal

pub returns : goal.returns
returns c = record {
  read = λ bound bytes ok accepted. arp_means bytes ok (arp_begins_accepted bound bytes ok accepted);
  fits = arp_fits;
  bytes = arp_bytes_are_bytes;
}
