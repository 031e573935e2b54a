use Rattle.std.proofs.Common.{sym, subst, rules}
use Rattle.etherparse.specs.Ethernet2.{ethernet2_of}
use Rattle.ether_peel.specs.declared.peel_unit.PeelUnit.{PeelUnit}
use Rattle.ether_peel.specs.declared.peel_unit.PeelUnit.TheVariants as shown
use Rattle.ether_packet.specs.PacketUnit.{Read}
use Rattle.ether_packet.specs.Places.{kind_read, HasPlace, Reads, IsReadable, IsReadableLink}
use Rattle.ether_packet.proofs.Places.{arp_at, no_packet, with_arp, readable_frame, readable_whole}
use Rattle.ether_packet.proofs.packet_units.PacketUnits.add.Goals as goal

pub invariant_of-self : goal.invariant_of-self
invariant_of-self c =
    let a = c.self.inside in
    let f = c.in-Ethernet2.slice in
    let fits = subst (λ (u : PeelUnit). HasPlace c.args.self.now u c.args.place) c.in-Ethernet2.is c.requires.fits in
    let readable =
    subst (λ (u : PeelUnit). IsReadable (kind_read u) c.args.place) c.in-Ethernet2.is c.requires.readable in
    let whole = readable_whole c.args.self.now.frame _ c.args.place fits.2 readable in
    let own = subst (λ (r : Read). Reads r.frame (kind_read (shown.Ethernet2 f))) (sym c.self.view_is) whole in
    record {
      link =
          subst (IsReadableLink a.frame.now) (sym c.frame_place-self-inside.ensures)
          (readable_frame a.frame.now f.has_fcs (ethernet2_of f.bytes) own);
      exts = c.self.invariant.exts;
      arp = c.self.invariant.arp;
    }

pub returns-in-Ethernet2 : goal.returns-in-Ethernet2
returns-in-Ethernet2 c = search rules

pub invariant_of-self-in-LinuxSll : goal.invariant_of-self-in-LinuxSll
invariant_of-self-in-LinuxSll c =
    let fits = subst (λ (u : PeelUnit). HasPlace c.args.self.now u c.args.place) c.in-LinuxSll.is c.requires.fits in
    let readable =
    subst (λ (u : PeelUnit). IsReadable (kind_read u) c.args.place) c.in-LinuxSll.is c.requires.readable in
    search rules

pub returns-in-Arp : goal.returns-in-Arp
returns-in-Arp c = search (rules, no_packet, arp_at, with_arp)

pub add_ext-requires-clause-readable : goal.add_ext-requires-clause-readable
add_ext-requires-clause-readable c =
    subst (λ (u : PeelUnit). IsReadable (kind_read u) c.args.place) c.in-Vlan.is c.requires.readable

pub add_ext-requires-in-Macsec-clause-readable : goal.add_ext-requires-in-Macsec-clause-readable
add_ext-requires-in-Macsec-clause-readable c =
    subst (λ (u : PeelUnit). IsReadable (kind_read u) c.args.place) c.in-Macsec.is c.requires.readable

pub invariant_of-self-in-Arp : goal.invariant_of-self-in-Arp
invariant_of-self-in-Arp c = record {
  link = c.self-in-Arp.invariant.link;
  exts = c.self-in-Arp.invariant.exts;
  arp = subst (λ (u : PeelUnit). IsReadable (kind_read u) c.args.place) c.in-Arp.is c.requires.readable;
}
