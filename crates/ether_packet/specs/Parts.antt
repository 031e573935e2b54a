-- The headers of a packet as values that can be changed and written.
use Rattle.std.specs.Prelude.{◌≡◌, ℕ, ◌+◌, ◌≤◌, List, [], ◌∷◌, ◌++◌, length, take, drop, map, Option, Some, None}
use Rattle.etherparse.specs.Bytes.{IsBytes}
use Rattle.etherparse.specs.Types.EtherType.{EtherType}
use Rattle.etherparse.specs.Types.LinkExtHeader.{LinkExtHeader}
use Rattle.etherparse.specs.LinkExt.{ext_header_view}
use Rattle.etherparse.specs.Arp.{ArpValue}
use Rattle.etherparse.specs.Header.{Header}
use Rattle.etherparse.specs.Header as headers
use Rattle.ether_peel.specs.Grammar.Cleared.{cleared}
use Rattle.ether_peel.specs.Grammar.Expectation.{Expectation}
use Rattle.ether_peel.specs.Grammar.Places.{place}
use Rattle.ether_peel.specs.declared.rest_kind.RestKind.{RestKind}
use Rattle.ether_peel.specs.declared.rest_kind.RestKind.TheVariants as rests
use Rattle.ether_packet.specs.declared.packet_builder.PacketBuilder.{PacketBuilder}
use Rattle.ether_packet.specs.declared.packet_builder.PacketContent.{PacketContent}
use Rattle.ether_packet.specs.declared.packet_builder.PacketContent.TheVariants as contents
use Rattle.ether_packet.specs.declared.packet_parts.PacketParts.{PacketParts}
use Rattle.ether_packet.specs.declared.packet_slice.PacketSlice.{PacketSlice}
use Rattle.ether_packet.specs.declared.replace_error.ReplaceError.{ReplaceError}
use Rattle.ether_packet.specs.declared.replace_error.ReplaceError.TheVariants as errors
use Rattle.ether_packet.specs.Builder.{content_payload}
use Rattle.ether_packet.specs.Packet.{packet_headers, IsPacket}
use Rattle.ether_packet.specs.ReplacingLink.{IsLinkOf}
use Rattle.ether_packet.specs.Unchanged.{IsWrittenUnchanged}

-- the ARP packet as a header, if there is one
abbrev pub arp_headers : Option ArpValue → List Header
arp_headers None = []
arp_headers (Some packet) = headers.Arp packet ∷ []

abbrev pub parts_exts : PacketParts → List LinkExtHeader
parts_exts p = take p.tag_count p.tags

-- the headers after the link's
abbrev pub parts_inner : PacketParts → List Header
parts_inner p = map ext_header_view (parts_exts p) ++ arp_headers p.arp

-- these are the headers: the link's, the extensions, and the ARP packet if there is one
pub record HaveHeaders (p : PacketParts) (hs : List Header) : Type 0 where
  pub link : Header
  pub parts : hs ≡ link ∷ parts_inner p
  pub is_link : IsLinkOf p.link link

-- the ether type that announces the rest, or 0
abbrev pub type_shown : RestKind → ℕ
type_shown (rests.EtherType t) = t.0
type_shown _ = 0

-- the bytes of the frame after the rest
abbrev pub trailer_of : PacketSlice → List ℕ
trailer_of packet = drop (packet.rest_offset + length packet.rest.now) packet.read.frame

-- the parts of a packet
pub record ArePartsOf (p : PacketParts) (packet : PacketSlice) : Type 0 where
  pub have : HaveHeaders p (packet_headers packet)
  pub ether_type : p.ether_type.0 ≡ type_shown packet.rest_kind
  pub rest : p.rest.now ≡ packet.rest.now
  pub trailer : p.trailer.now ≡ trailer_of packet

-- there is no extension at the index, and the error names the number of extensions
abbrev pub IsNoExt : PacketParts → (index : ℕ) → ReplaceError → Type 0
IsNoExt p index error = (length (parts_exts p) ≤ index) × (error ≡ errors.NoLinkExt (length (parts_exts p)))

-- the ARP packet if there is one, else the bytes as a payload
abbrev pub HasContent : Option ArpValue → (ether_type : EtherType) (bytes : List ℕ) → PacketContent → Type 0
HasContent None t bytes (contents.Payload ether_type payload) = (ether_type ≡ t) × (payload.now ≡ bytes)
HasContent (Some a) t bytes (contents.Arp packet) = packet.now ≡ a
HasContent _ t bytes content = ⊥

pub record IsBuilderOf (p : PacketParts) (b : PacketBuilder) : Type 0 where
  pub link : b.link ≡ p.link
  pub exts : b.link_exts.now ≡ parts_exts p
  pub content : HasContent p.arp p.ether_type p.rest.now b.content

-- Writing parts unchanged gives the front of the frame that they were read from, except for the two reserved bits of
-- each SecTag: the headers, and the rest of the last window, unless it follows an ARP packet.
abbrev pub PartsGoBack : Type 0
PartsGoBack =
    (start : Expectation) (list : List ℕ) (packet : PacketSlice) (parts : PacketParts) (b : PacketBuilder) (end : ℕ)
    (old new : List ℕ)
    → IsBytes list → IsPacket start list packet → ArePartsOf parts packet → IsBuilderOf parts b
    → IsWrittenUnchanged b old end new
    → (end ≡ place 0 (packet_headers packet) + length (content_payload b.content))
    × (take end new ≡ take end (cleared list 0 (packet_headers packet)))
