-- How a packet keeps its headers: by the windows of the frame in which they were read.
use Rattle.std.specs.Prelude.{◌≡◌, ℕ, ◌<◌, List, [], ◌∷◌, ◌++◌, length, map, Option, Some, None, IfSome, Bool, true, false}
use Rattle.std.specs.List.{All}
use Rattle.etherparse.specs.Types.LenSource.TheVariants as sources
use Rattle.etherparse.specs.Kind.{Kind}
use Rattle.etherparse.specs.Kind as kinds
use Rattle.etherparse.specs.Header.{Header, kind_of}
use Rattle.etherparse.specs.Refusal.{Accepts}
use Rattle.ether_peel.specs.Walker.UnitHeader.{unit_header}
use Rattle.ether_peel.specs.declared.peel_unit.PeelUnit.{PeelUnit}
use Rattle.ether_peel.specs.declared.peel_unit.PeelUnit.TheVariants as shown
use Rattle.ether_packet.specs.declared.ext_places.FrameWindow.{FrameWindow}
use Rattle.ether_packet.specs.declared.ext_places.ExtKind.{ExtKind}
use Rattle.ether_packet.specs.declared.ext_places.ExtKind.TheVariants as tags
use Rattle.ether_packet.specs.declared.ext_places.ExtPlace.{ExtPlace}
use Rattle.ether_packet.specs.declared.packet_units.LinkKind.{LinkKind}
use Rattle.ether_packet.specs.declared.packet_units.LinkKind.TheVariants as links
use Rattle.ether_packet.specs.PacketUnit.{PacketUnit, Read}
use Rattle.ether_packet.specs.Views.{header_of, exts_of, arp_view}

-- ---- the headers at these places

abbrev pub unit_at : Kind → FrameWindow → PacketUnit
unit_at kind p = record { kind = kind; offset = p.start; bytes = p.bytes.now }

-- the link's header, whose window is the whole frame
abbrev pub link_unit : List ℕ → Kind → PacketUnit
link_unit frame kind = record { kind = kind; offset = 0; bytes = frame }

abbrev pub link_units : List ℕ → LinkKind → List PacketUnit
link_units frame links.Missing = []
link_units frame links.Ethernet2 = link_unit frame kinds.Ethernet2 ∷ []
link_units frame links.Ethernet2Fcs = link_unit frame kinds.Ethernet2Fcs ∷ []
link_units frame links.LinuxSll = link_unit frame kinds.LinuxSll ∷ []

abbrev pub ext_kind : ExtKind → Kind
ext_kind tags.Vlan = kinds.Vlan
ext_kind tags.Macsec = kinds.Macsec

abbrev pub ext_unit : ExtPlace → PacketUnit
ext_unit e = unit_at (ext_kind e.kind) e.place

abbrev pub arp_units : Option FrameWindow → List PacketUnit
arp_units None = []
arp_units (Some p) = unit_at kinds.Arp p ∷ []

abbrev pub units_at : List ℕ → LinkKind → List ExtPlace → Option FrameWindow → List PacketUnit
units_at frame link exts arp = link_units frame link ++ map ext_unit exts ++ arp_units arp

-- the headers as values
abbrev pub headers_at : List ℕ → LinkKind → List ExtPlace → Option FrameWindow → List Header
headers_at frame link exts arp = map header_of (units_at frame link exts arp)

-- ---- which can be read again

-- no row of the table of refusals holds for the window, so the header can be read again
abbrev pub Reads : List ℕ → Kind → Type 0
Reads bytes kind = Accepts sources.Slice bytes kind

abbrev pub IsReadable : Kind → FrameWindow → Type 0
IsReadable kind p = Reads p.bytes.now kind

abbrev pub IsReadableLink : List ℕ → LinkKind → Type 0
IsReadableLink frame links.Missing = Unit {0}
IsReadableLink frame links.Ethernet2 = Reads frame kinds.Ethernet2
IsReadableLink frame links.Ethernet2Fcs = Reads frame kinds.Ethernet2Fcs
IsReadableLink frame links.LinuxSll = Reads frame kinds.LinuxSll

abbrev pub IsReadableExt : ExtPlace → Type 0
IsReadableExt e = IsReadable (ext_kind e.kind) e.place

pub record AreReadable (frame : List ℕ) (first : LinkKind) (tags : List ExtPlace) (last : Option FrameWindow) : Type 0
  where
    pub link : IsReadableLink frame first
    pub exts : All IsReadableExt tags
    pub arp : IfSome last (IsReadable kinds.Arp)

-- the kind of an Ethernet II header with a frame check sequence, or without
abbrev pub frame_link : Bool → LinkKind
frame_link true = links.Ethernet2Fcs
frame_link false = links.Ethernet2

-- ---- one header more

-- the kind of a unit of a walk
abbrev pub kind_read : PeelUnit → Kind
kind_read u = kind_of (unit_header u)

-- fewer than three extensions, and no ARP packet
abbrev pub HasPlaceForExt : Read → Type 0
HasPlaceForExt r = (length (exts_of r.units) < 3) × (arp_view r.units ≡ None)

-- The header can be appended: a link's header only to no others; an extension to at most two extensions; and nothing
-- to an ARP packet.
abbrev pub HasPlace : Read → PeelUnit → FrameWindow → Type 0
HasPlace r (shown.Ethernet2 frame) p = (r.units ≡ []) × (p.start ≡ 0) × (p.bytes.now ≡ r.frame)
HasPlace r (shown.LinuxSll bytes) p = (r.units ≡ []) × (p.start ≡ 0) × (p.bytes.now ≡ r.frame)
HasPlace r (shown.Vlan bytes) p = HasPlaceForExt r
HasPlace r (shown.Macsec packet) p = HasPlaceForExt r
HasPlace r (shown.Arp bytes) p = arp_view r.units ≡ None

-- the headers with this one appended
abbrev pub read_with : Read → Kind → FrameWindow → Read
read_with r kind p = record r { units = r.units ++ unit_at kind p ∷ [] }
