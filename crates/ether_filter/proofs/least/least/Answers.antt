use Rattle.std.proofs.Common.{sym, subst}
use Rattle.ether_filter.specs.declared.prospect.OpenKind.{OpenKind}
use Rattle.ether_filter.specs.LeastBytes.{IsLeastAt}
use Rattle.ether_filter.proofs.least.least.Goals as goal

pub returns-in-Ethernet2 : goal.returns-in-Ethernet2
returns-in-Ethernet2 c =
    subst
    (λ (k : OpenKind). IsLeastAt c.args.primitive c.args.told k c.args.known.now c.args.room c.of_ethernet2.result)
    (sym c.in-Ethernet2.is) c.of_ethernet2.ensures

pub returns-in-LinuxSll : goal.returns-in-LinuxSll
returns-in-LinuxSll c =
    subst (λ (k : OpenKind). IsLeastAt c.args.primitive c.args.told k c.args.known.now c.args.room c.of_sll.result)
    (sym c.in-LinuxSll.is) c.of_sll.ensures

pub returns-in-Vlan : goal.returns-in-Vlan
returns-in-Vlan c =
    subst (λ (k : OpenKind). IsLeastAt c.args.primitive c.args.told k c.args.known.now c.args.room c.of_vlan.result)
    (sym c.in-Vlan.is) c.of_vlan.ensures

pub returns-in-Macsec : goal.returns-in-Macsec
returns-in-Macsec c =
    subst (λ (k : OpenKind). IsLeastAt c.args.primitive c.args.told k c.args.known.now c.args.room c.of_tag.result)
    (sym c.in-Macsec.is) c.of_tag.ensures

pub returns-in-Arp : goal.returns-in-Arp
returns-in-Arp c =
    subst (λ (k : OpenKind). IsLeastAt c.args.primitive c.args.told k c.args.known.now c.args.room c.of_arp.result)
    (sym c.in-Arp.is) c.of_arp.ensures
