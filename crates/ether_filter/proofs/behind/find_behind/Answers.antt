use Rattle.std.proofs.Common.{arith, sym, subst}
use Rattle.std.specs.Prelude.{Some}
use Rattle.ether_filter.specs.declared.prospect.OpenKind.{OpenKind}
use Rattle.ether_filter.specs.Prospects.{kind_named}
use Rattle.ether_filter.specs.Behind.{IsWhole, IsBehind}
use Rattle.ether_filter.proofs.Behinds.{ethernet2_behind, vlan_behind}
use Rattle.ether_filter.proofs.behind.find_behind.Goals as goal

pub returns-in-Ethernet2 : goal.returns-in-Ethernet2
returns-in-Ethernet2 c =
    subst (λ (k : OpenKind). IsBehind (kind_named k) c.args.known.now c.args.room (Some c.behind_fixed.result))
    (sym c.in-Ethernet2.is)
    (ethernet2_behind c.args.known.now c.args.room c.behind_fixed.result (λ i. omega (arith, c.type_inv.known i))
    (subst (λ (k : OpenKind). IsWhole k c.args.known.now) c.in-Ethernet2.is c.requires.whole) c.requires.inside
    c.behind_fixed.ensures.header c.behind_fixed.ensures.room c.behind_fixed.ensures.ether_type)

pub returns-in-Vlan : goal.returns-in-Vlan
returns-in-Vlan c =
    subst (λ (k : OpenKind). IsBehind (kind_named k) c.args.known.now c.args.room
    (Some c.behind_fixed-in-Vlan.result)) (sym c.in-Vlan.is)
    (vlan_behind c.args.known.now c.args.room c.behind_fixed-in-Vlan.result (λ i. omega (arith, c.type_inv.known i))
    (subst (λ (k : OpenKind). IsWhole k c.args.known.now) c.in-Vlan.is c.requires.whole) c.requires.inside
    c.behind_fixed-in-Vlan.ensures.header c.behind_fixed-in-Vlan.ensures.room c.behind_fixed-in-Vlan.ensures.ether_type)

pub returns-in-LinuxSll : goal.returns-in-LinuxSll
returns-in-LinuxSll c =
    subst (λ (k : OpenKind). IsBehind (kind_named k) c.args.known.now c.args.room c.behind_sll.result)
    (sym c.in-LinuxSll.is)
    c.behind_sll.ensures

pub returns-in-Macsec : goal.returns-in-Macsec
returns-in-Macsec c =
    subst (λ (k : OpenKind). IsBehind (kind_named k) c.args.known.now c.args.room c.behind_sec_tag.result)
    (sym c.in-Macsec.is)
    c.behind_sec_tag.ensures
