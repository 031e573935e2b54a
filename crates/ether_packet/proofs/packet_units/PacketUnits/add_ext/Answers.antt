use Rattle.std.proofs.Common.{sym, subst, rules}
use Rattle.std.specs.List.{All}
use Rattle.std.proofs.lemmas.List.{length-map}
use Rattle.ether_packet.specs.declared.ext_places.ExtPlace.{ExtPlace}
use Rattle.ether_packet.specs.PacketUnit.{Read}
use Rattle.ether_packet.specs.Places.{ext_kind, IsReadable, IsReadableExt}
use Rattle.ether_packet.proofs.Places.{exts_at, arp_at, no_packet, with_ext, all_with}
use Rattle.ether_packet.proofs.packet_units.PacketUnits.add_ext.Goals as goal

pub push-requires : goal.push-requires
push-requires c = search (rules, exts_at, length-map)

pub invariant_of-self : goal.invariant_of-self
invariant_of-self c =
    let a = c.self.inside in
    let x : ExtPlace = record { kind = c.args.kind; place = c.args.place } in
    let readable : IsReadableExt x =
    subst (λ (r : Read). IsReadable (ext_kind c.args.kind) c.args.place) (sym c.self.view_is) c.requires.readable in
    record {
      link = c.self.invariant.link;
      exts =
          subst (All IsReadableExt) (sym c.push.ensures)
          (all_with IsReadableExt a.exts x c.self.invariant.exts readable);
      arp = c.self.invariant.arp;
    }

pub returns : goal.returns
returns c = search (rules, no_packet, arp_at, with_ext)
