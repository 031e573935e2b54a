-- The headers of a packet as values.
use Rattle.std.proofs.Common.{◌≡◌, false, ℕ, ◌≤◌, List, [], ◌∷◌, ◌++◌, length, take, refl, arith, rules}
use Rattle.std.specs.Prelude.{map, slice_get, Option, Some, None}
use Rattle.std.proofs.lemmas.List.{map-append}
use Rattle.etherparse.specs.Types.LinkExtHeader.{LinkExtHeader}
use Rattle.etherparse.specs.LinkExt.{ext_header_view}
use Rattle.etherparse.specs.Header.{kind_of}
use Rattle.ether_packet.specs.PacketUnit.{PacketUnit}
use Rattle.ether_packet.specs.Views.{header_in, header_of, exts_of}
use Rattle.ether_packet.specs.Places.{ext_kind, ext_unit, link_units, arp_units, units_at}
use Rattle.ether_packet.specs.ReplacingLink.{is_link, has_link}
use Rattle.ether_packet.specs.declared.ext_places.ExtKind.{ExtKind}
use Rattle.ether_packet.specs.declared.ext_places.ExtKind.TheVariants as tags
use Rattle.ether_packet.specs.declared.ext_places.ExtPlace.{ExtPlace}
use Rattle.ether_packet.specs.declared.ext_places.FrameWindow.{FrameWindow}
use Rattle.ether_packet.specs.declared.packet_units.LinkKind.{LinkKind}
use Rattle.ether_packet.proofs.Places.{exts_at}

-- a value is that of the unit at an index
abbrev pub IsValueAt : List PacketUnit → ℕ → LinkExtHeader → Type 0
IsValueAt us i x = (u : PacketUnit) → slice_get us i ≡ Some u → ext_header_view x ≡ header_of u

pub three_values : (us : List PacketUnit) (x y z : LinkExtHeader) → length us ≤ 3 → IsValueAt us 0 x → IsValueAt us 1 y
    → IsValueAt us 2 z → map ext_header_view (take (length us) (x ∷ y ∷ z ∷ [])) ≡ map header_of us
three_values [] x y z few is_x is_y is_z = refl
three_values (u ∷ []) x y z few is_x is_y is_z = λ i. is_x u refl i ∷ []
three_values (u ∷ v ∷ []) x y z few is_x is_y is_z = λ i. is_x u refl i ∷ is_y v refl i ∷ []
three_values (u ∷ v ∷ w ∷ []) x y z few is_x is_y is_z = λ i. is_x u refl i ∷ is_y v refl i ∷ is_z w refl i ∷ []
three_values (u ∷ v ∷ w ∷ t ∷ us) x y z few is_x is_y is_z = absurd (omega (arith, few))

-- the headers are that of the link, the extensions and the ARP packet
pub shape : (frame : List ℕ) (link : LinkKind) (xs : List ExtPlace) (arp : Option FrameWindow) (u : PacketUnit)
    → link_units frame link ≡ u ∷ []
    → map header_of (units_at frame link xs arp)
    ≡ header_of u ∷ map header_of (exts_of (units_at frame link xs arp)) ++ map header_of (arp_units arp)
shape frame link xs arp u is = search (rules, map-append, exts_at)

tag_no_link : (k : ExtKind) (bytes : List ℕ) → is_link (kind_of (header_in (ext_kind k) bytes)) ≡ false
tag_no_link tags.Vlan bytes = refl
tag_no_link tags.Macsec bytes = refl

none_is_link : (xs : List ExtPlace) (arp : Option FrameWindow)
    → has_link (map header_of ([] ++ map ext_unit xs ++ arp_units arp)) ≡ false
none_is_link [] None = refl
none_is_link [] (Some p) = refl
none_is_link (x ∷ xs) arp = tag_no_link x.kind x.place.bytes.now

pub without_link : (frame : List ℕ) (link : LinkKind) (xs : List ExtPlace) (arp : Option FrameWindow)
    → link_units frame link ≡ [] → has_link (map header_of (units_at frame link xs arp)) ≡ false
without_link frame link xs arp none = search (rules, none_is_link)
