use Rattle.std.proofs.Common.{ap, sym, ◌∙◌}
use Rattle.ether_packet.specs.declared.packet_units.LinkKind.{LinkKind}
use Rattle.ether_packet.specs.PacketUnit.{Read}
use Rattle.ether_packet.specs.Views.{link_of}
use Rattle.ether_packet.specs.Places.{units_at}
use Rattle.ether_packet.proofs.Places.{no_link}
use Rattle.ether_packet.proofs.packet_units.PacketUnits.link.Goals as goal

pub returns-in-Missing : goal.returns-in-Missing
returns-in-Missing c =
    let a = c.self.inside in
    sym
    (ap (λ (l : LinkKind). link_of (units_at a.frame.now l a.exts a.arp)) c.in-Missing.is
    ∙ no_link a.frame.now a.exts a.arp)
    ∙ ap (λ (r : Read). link_of r.units) c.self.view_is
