-- The headers of a packet by the bytes that mean them, and views of these headers.
use Rattle.std.specs.Prelude.{◌≡◌, ℕ, List, [], ◌∷◌, Option, Some, None, slice_range, slice_get, true, false}
use Rattle.std.specs.List.{filter, filter_map}
use Rattle.etherparse.specs.Types.LinkSlice.{LinkSlice}
use Rattle.etherparse.specs.Types.LinkSlice.TheVariants as links
use Rattle.etherparse.specs.Types.LinkExtSlice.{LinkExtSlice}
use Rattle.etherparse.specs.Types.LinkExtSlice.TheVariants as exts
use Rattle.etherparse.specs.Types.MacsecSlice.{MacsecSlice}
use Rattle.etherparse.specs.Ethernet2.{ethernet2_of}
use Rattle.etherparse.specs.LinuxSll.{linux_sll_of}
use Rattle.etherparse.specs.Vlan.{vlan_of}
use Rattle.etherparse.specs.Macsec.{sec_tag_of, sec_tag_front_in, tag_bytes, tag_in, HoldsPayload}
use Rattle.etherparse.specs.Arp.{arp_of, arp_front_in, arp_len}
use Rattle.etherparse.specs.LinkExt.{ext_slice_header}
use Rattle.etherparse.specs.Kind.{Kind}
use Rattle.etherparse.specs.Kind as kinds
use Rattle.etherparse.specs.Header.{Header}
use Rattle.etherparse.specs.Header as headers
use Rattle.ether_peel.specs.Grammar.Expectation.{is_extension}
use Rattle.ether_packet.specs.declared.packet_ext.PacketExt.{PacketExt}
use Rattle.ether_packet.specs.PacketUnit.{PacketUnit}

-- ---- headers

-- the header of this kind at the front of a list of bytes
abbrev pub header_in : Kind → List ℕ → Header
header_in kinds.Ethernet2 bytes = headers.Ethernet2 (ethernet2_of bytes)
header_in kinds.Ethernet2Fcs bytes = headers.Ethernet2Fcs (ethernet2_of bytes)
header_in kinds.LinuxSll bytes = headers.LinuxSll (linux_sll_of bytes)
header_in kinds.Vlan bytes = headers.Vlan (vlan_of bytes)
header_in kinds.Macsec bytes = headers.Macsec (sec_tag_of bytes)
header_in kinds.Arp bytes = headers.Arp (arp_of bytes)

abbrev pub header_of : PacketUnit → Header
header_of u = header_in u.kind u.bytes

-- ---- views of them

-- a view of the link's header, the first of a frame
abbrev pub link_in : Kind → List ℕ → Option LinkSlice
link_in kinds.Ethernet2 bytes = Some (links.Ethernet2 (record { bytes = bytes; has_fcs = false }))
link_in kinds.Ethernet2Fcs bytes = Some (links.Ethernet2 (record { bytes = bytes; has_fcs = true }))
link_in kinds.LinuxSll bytes = Some (links.LinuxSll bytes)
link_in _ bytes = None

abbrev pub link_of : List PacketUnit → Option LinkSlice
link_of [] = None
link_of (u ∷ us) = link_in u.kind u.bytes

-- the extensions
abbrev pub exts_of : List PacketUnit → List PacketUnit
exts_of us = filter (λ (u : PacketUnit). is_extension u.kind) us

-- the bytes of a VLAN tag with its payload
abbrev pub vlan_in : Kind → List ℕ → Option (List ℕ)
vlan_in kinds.Vlan bytes = Some bytes
vlan_in _ bytes = None

abbrev pub vlan_of_unit : PacketUnit → Option (List ℕ)
vlan_of_unit u = vlan_in u.kind u.bytes

-- the bytes of a SecTag with its payload
abbrev pub macsec_in : Kind → List ℕ → Option (List ℕ)
macsec_in kinds.Macsec bytes = Some bytes
macsec_in _ bytes = None

abbrev pub macsec_of_unit : PacketUnit → Option (List ℕ)
macsec_of_unit u = macsec_in u.kind u.bytes

-- a view of a SecTag with its payload
pub record ViewsSecTag (bytes : List ℕ) (m : MacsecSlice) : Type 0 where
  pub header : tag_bytes m.header ≡ tag_in bytes
  pub payload : HoldsPayload m.payload (sec_tag_front_in bytes) bytes

-- .. if there is one
abbrev pub ViewsSecTagIf : Option (List ℕ) → Option MacsecSlice → Type 0
ViewsSecTagIf None result = result ≡ None
ViewsSecTagIf (Some bytes) None = ⊥
ViewsSecTagIf (Some bytes) (Some packet) = ViewsSecTag bytes packet

-- a view of an extension with its payload
abbrev pub ViewsTag : Kind → List ℕ → LinkExtSlice → Type 0
ViewsTag kind bytes (exts.Vlan slice) = (kind ≡ kinds.Vlan) × (slice ≡ bytes)
ViewsTag kind bytes (exts.Macsec packet) = (kind ≡ kinds.Macsec) × ViewsSecTag bytes packet

-- .. with its offset, and the header that it means
pub record ViewsExt (u : PacketUnit) (ext : PacketExt) : Type 0 where
  pub offset : ext.offset ≡ u.offset
  pub tag : ViewsTag u.kind u.bytes ext.slice
  pub header : ext_slice_header ext.slice ≡ header_of u

-- .. if there is an extension
abbrev pub ViewsExtIf : Option PacketUnit → Option PacketExt → Type 0
ViewsExtIf None result = result ≡ None
ViewsExtIf (Some u) None = ⊥
ViewsExtIf (Some u) (Some ext) = ViewsExt u ext

-- .. of each extension
abbrev pub ViewsExts : List PacketUnit → List PacketExt → Type 0
ViewsExts [] [] = Unit {0}
ViewsExts (u ∷ us) (ext ∷ exts) = ViewsExt u ext × ViewsExts us exts
ViewsExts _ _ = ⊥

-- the bytes of an ARP packet, without what follows it
abbrev pub arp_in : Kind → List ℕ → Option (List ℕ)
arp_in kinds.Arp bytes = Some (slice_range bytes 0 (arp_len (arp_front_in bytes)))
arp_in _ bytes = None

-- .. of the first ARP packet
abbrev pub arp_view : List PacketUnit → Option (List ℕ)
arp_view us = slice_get (filter_map (λ (u : PacketUnit). arp_in u.kind u.bytes) us) 0

-- the offset of a unit, if it is an ARP packet
abbrev pub arp_start : Kind → ℕ → Option ℕ
arp_start kinds.Arp at = Some at
arp_start _ at = None

-- .. of the first ARP packet
abbrev pub arp_offset : List PacketUnit → Option ℕ
arp_offset us = slice_get (filter_map (λ (u : PacketUnit). arp_start u.kind u.offset) us) 0
