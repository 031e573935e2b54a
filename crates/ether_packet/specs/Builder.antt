-- What a builder writes, by its parts.
use Rattle.std.specs.Prelude.{◌≡◌, ℕ, ◌≤◌, List, [], ◌∷◌, ◌++◌, length, take, drop, map, flat_map, true, false, None}
use Rattle.etherparse.specs.Types.LinkHeader.{LinkHeader}
use Rattle.etherparse.specs.Types.LinkHeader.TheVariants as links
use Rattle.etherparse.specs.Types.Layer.TheVariants as layers
use Rattle.etherparse.specs.Types.SliceWriteSpaceError.{SliceWriteSpaceError}
use Rattle.etherparse.specs.Ethernet2.{ethernet2_view}
use Rattle.etherparse.specs.LinuxSll.{linux_sll_view}
use Rattle.etherparse.specs.LinkExt.{ext_header_view}
use Rattle.etherparse.specs.Arp.{arp_bytes}
use Rattle.etherparse.specs.Kind as kinds
use Rattle.etherparse.specs.Header.{Header, header_bytes, header_len}
use Rattle.etherparse.specs.Header as headers
use Rattle.etherparse.specs.WriteFront.{IsRefusedSpace}
use Rattle.ether_peel.specs.Grammar.Expectation.{Expectation, Start}
use Rattle.ether_peel.specs.Grammar.Places.{place}
use Rattle.ether_packet.specs.declared.build_error.BuildError.{BuildError}
use Rattle.ether_packet.specs.declared.build_error.BuildError.TheVariants as errors
use Rattle.ether_packet.specs.declared.packet_builder.PacketContent.{PacketContent}
use Rattle.ether_packet.specs.declared.packet_builder.PacketContent.TheVariants as contents
use Rattle.ether_packet.specs.declared.packet_builder.PacketBuilder.{PacketBuilder}
use Rattle.ether_packet.specs.Building.{built, is_readable, IsChain, BeginsWith}

abbrev pub link_header : LinkHeader → Header
link_header (links.LinuxSll h) = headers.LinuxSll (linux_sll_view h)
link_header (links.Ethernet2 h) = headers.Ethernet2 (ethernet2_view h)

-- the expectation with which a frame of this header is read
abbrev pub link_start : LinkHeader → Expectation
link_start (links.LinuxSll h) = record { next = Start kinds.LinuxSll; limit = None }
link_start (links.Ethernet2 h) = record { next = Start kinds.Ethernet2; limit = None }

abbrev pub content_headers : PacketContent → List Header
content_headers (contents.Payload t bytes) = []
content_headers (contents.Arp packet) = headers.Arp packet.now ∷ []

abbrev pub content_type : PacketContent → ℕ
content_type (contents.Payload t bytes) = t.0
content_type (contents.Arp packet) = 0

abbrev pub content_payload : PacketContent → List ℕ
content_payload (contents.Payload t bytes) = bytes.now
content_payload (contents.Arp packet) = []

-- what is written after the tags
abbrev pub content_bytes : PacketContent → List ℕ
content_bytes (contents.Payload t bytes) = bytes.now
content_bytes (contents.Arp packet) = arp_bytes packet.now

abbrev pub content_len : PacketContent → ℕ
content_len (contents.Payload t bytes) = length bytes.now
content_len (contents.Arp packet) = header_len (headers.Arp packet.now)

-- the headers after that of the link
abbrev pub inner_headers : PacketBuilder → List Header
inner_headers p = map ext_header_view p.link_exts.now ++ content_headers p.content

-- the headers as they are written
abbrev pub built_headers : PacketBuilder → List Header
built_headers p =
    built (link_header p.link ∷ inner_headers p) (content_type p.content) (length (content_payload p.content))

abbrev pub packet_len : PacketBuilder → ℕ
packet_len p = place (length (content_payload p.content)) (link_header p.link ∷ inner_headers p)

-- The target holds the headers, then the payload, and then what it held before. The walk of the packet finds these
-- headers, and then what it finds in the payload.
pub record IsWritten (p : PacketBuilder) (old : List ℕ) (end : ℕ) (new : List ℕ) : Type 0 where
  pub ends : end ≡ packet_len p
  pub room : end ≤ length old
  pub bytes : new ≡ flat_map header_bytes (built_headers p) ++ content_payload p.content ++ drop end old
  pub walk : BeginsWith (link_start p.link) (take end new) (built_headers p) (content_payload p.content)

-- ---- refusals

-- a header of cooked capture has the hardware type of Ethernet (ARPHRD_ETHER)
abbrev pub IsEthernet : LinkHeader → Type 0
IsEthernet (links.LinuxSll h) = h.arp_hrd_type.0 ≡ 1
IsEthernet (links.Ethernet2 h) = Unit {0}

-- the packet type of a cooked capture is a supported one
abbrev pub HasPacketType : LinkHeader → Type 0
HasPacketType (links.LinuxSll h) = h.packet_type ≤ 7
HasPacketType (links.Ethernet2 h) = Unit {0}

abbrev pub AllReadable : List Header → Type 0
AllReadable [] = Unit {0}
AllReadable (h ∷ hs) = (is_readable h ≡ true) × AllReadable hs

-- the first i headers have readable payloads; the next one does not, though a header follows it
pub record IsSealedAt (hs : List Header) (i : ℕ) : Type 0 where
  pub front : List Header
  pub sealed : Header
  pub follows : Header
  pub later : List Header
  pub split : hs ≡ front ++ sealed ∷ follows ∷ later
  pub place : length front ≡ i
  pub readable : AllReadable front
  pub unreadable : is_readable sealed ≡ false

-- a header of cooked capture whose hardware type is not Ethernet is refused, and the error names that type
abbrev pub IsOtherLink : LinkHeader → BuildError → Type 0
IsOtherLink (links.LinuxSll h) e = (e ≡ errors.HardwareType h.arp_hrd_type) × (IsEthernet (links.LinuxSll h) → ⊥)
IsOtherLink (links.Ethernet2 h) e = ⊥

pub data RefusesPacket (p : PacketBuilder) (target : List ℕ) : BuildError → Type 0 where
  hardware_type : (e : BuildError) → IsOtherLink p.link e → RefusesPacket p target e
  sealed : (i : ℕ) → IsEthernet p.link → IsSealedAt (inner_headers p) i → RefusesPacket p target (errors.Sealed i)
  space : (e : SliceWriteSpaceError) → IsEthernet p.link → IsChain (inner_headers p)
      → IsRefusedSpace (packet_len p) layers.EtherPayload target e → RefusesPacket p target (errors.Space e)

-- no reason for refusal holds
abbrev pub AcceptsPacket : (p : PacketBuilder) (target : List ℕ) → Type 0
AcceptsPacket p target = (e : BuildError) → RefusesPacket p target e → ⊥

-- the target is too short, and that is the only reason for refusal
abbrev pub RefusesSpace : (p : PacketBuilder) (target : List ℕ) → BuildError → Type 0
RefusesSpace p target (errors.Space e) = IsRefusedSpace (packet_len p) layers.EtherPayload target e
RefusesSpace p target e = ⊥
