use Rattle.ether_base.proofs.Means.{some_header, one_header}
use Rattle.ether_base.proofs.Ethernet2Fields.{ethernet2_means}
use Rattle.ether_base.proofs.VlanFields.{vlan_means}
use Rattle.ether_base.proofs.LinuxSllFields.{linux_sll_means}
use Rattle.ether_base.proofs.MacsecFields.{sec_tag_means}
use Rattle.ether_base.proofs.laws.headers_are_meant.Goals as goal

pub returns : goal.returns
returns c = record {
  some = some_header;
  one = one_header;
  ethernet2 = ethernet2_means;
  vlan = vlan_means;
  linux_sll = linux_sll_means;
  macsec = sec_tag_means;
}
