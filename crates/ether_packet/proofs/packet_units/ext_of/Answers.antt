use Rattle.std.proofs.Common.{subst}
use Rattle.ether_packet.specs.declared.ext_places.ExtKind.{ExtKind}
use Rattle.ether_packet.specs.Places.{Reads, ext_kind}
use Rattle.ether_packet.proofs.packet_units.ext_of.Goals as goal

pub tag_of-requires : goal.tag_of-requires
tag_of-requires c = subst (λ (k : ExtKind). Reads c.args.ext.place.bytes.now (ext_kind k)) c.in-Vlan.is c.requires

pub sec_tag_of-requires : goal.sec_tag_of-requires
sec_tag_of-requires c = subst (λ (k : ExtKind). Reads c.args.ext.place.bytes.now (ext_kind k)) c.in-Macsec.is c.requires
