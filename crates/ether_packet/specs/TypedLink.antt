-- A link's header whose payload has an ether type.
use Rattle.std.specs.Prelude.{◌≡◌, ℕ, ◌+◌, ◌≤◌, List, ◌∷◌, length, true, false, Option, Some, None}
use Rattle.etherparse.specs.LinuxSll.{LinuxSllValue, linux_sll_of}
use Rattle.etherparse.specs.Types.ArpHardwareId.{ArpHardwareId}
use Rattle.etherparse.specs.Types.LenSource.TheVariants as sources
use Rattle.etherparse.specs.Kind as kinds
use Rattle.etherparse.specs.Refusal.{Refusal, Refuses, Accepts}
use Rattle.etherparse.specs.Header.{Header, kind_of, header_len, trailer_len}
use Rattle.etherparse.specs.Header as headers
use Rattle.ether_peel.specs.Grammar.Expectation.{EtherType, next_after}
use Rattle.ether_peel.specs.declared.start.Start.{Start}
use Rattle.ether_peel.specs.declared.start.Start.TheVariants as starts
use Rattle.ether_packet.specs.declared.tag_error.TagError.{TagError}
use Rattle.ether_packet.specs.declared.tag_error.TagError.TheVariants as errors
use Rattle.ether_packet.specs.declared.typed_link.TypedLink.{TypedLink}
use Rattle.ether_packet.specs.Building.{retyped}
use Rattle.ether_packet.specs.ReplacingLink.{is_link, has_link}

-- the number in the last two bytes of a link's header: the type of Ethernet II, the protocol type of a cooked capture
abbrev pub type_of_link : Header → ℕ
type_of_link (headers.Ethernet2 e) = e.ether_type
type_of_link (headers.Ethernet2Fcs e) = e.ether_type
type_of_link (headers.LinuxSll s) = s.protocol
type_of_link _ = 0

-- the header with another number in its last two bytes, which announces what follows it
abbrev pub with_type : Header → ℕ → Header
with_type (headers.Ethernet2 e) t = headers.Ethernet2 (record e { ether_type = t })
with_type (headers.Ethernet2Fcs e) t = headers.Ethernet2Fcs (record e { ether_type = t })
with_type (headers.LinuxSll s) t = headers.LinuxSll (record s { protocol = t })
with_type (headers.Vlan v) t = headers.Vlan (record v { ether_type = t })
with_type (headers.Macsec m) t = headers.Macsec (record m { payload_type = retyped m.payload_type t })
with_type (headers.Arp a) t = headers.Arp a

-- The headers begin with a link's, whose payload has an ether type.
pub record BeginsTyped (hs : List Header) (link : Header) (later : List Header) : Type 0 where
  pub parts : hs ≡ link ∷ later
  pub is_link : is_link (kind_of link) ≡ true
  pub typed : next_after link ≡ EtherType (type_of_link link)

-- They do not: there is no link's header, or it is of a cooked capture whose hardware type is not 1, Ethernet.
pub data RefusesTyped (hs : List Header) : TagError → Type 0 where
  no_link : has_link hs ≡ false → RefusesTyped hs errors.NoLink
  hardware_type : (s : LinuxSllValue) (later : List Header)
      → hs ≡ headers.LinuxSll s ∷ later → (s.hardware_type ≡ 1 → ⊥)
      → RefusesTyped hs (errors.HardwareType (record { 0 = s.hardware_type }))

-- ---- how it is read

-- the length of the link's header, for a start that has one
abbrev pub link_len : Start → ℕ
link_len starts.LinuxSll = 16
link_len _ = 14

-- the link's header, the length of its payload in a list, and its ether type
pub record IsTypedLink (start : Start) (list : List ℕ) (hs : List Header) (l : TypedLink) : Type 0 where
  pub link : Header
  pub later : List Header
  pub begins : BeginsTyped hs link later
  pub len : link_len start ≡ header_len link
  pub payload : link_len start + l.payload_len + trailer_len link ≡ length list
  pub ether_type : l.ether_type.0 ≡ type_of_link link

-- a list begins with a cooked capture header of Ethernet, whose packet type is supported
abbrev pub IsEthernetCapture : List ℕ → Type 0
IsEthernetCapture list =
    (16 ≤ length list) × ((linux_sll_of list).packet_type ≤ 7) × ((linux_sll_of list).hardware_type ≡ 1)

-- why it does not: the header has another hardware type, or is refused
abbrev pub IsOtherCapture : List ℕ → Option ArpHardwareId → Type 0
IsOtherCapture list (Some hardware) =
    Accepts sources.Slice list kinds.LinuxSll × (hardware.0 ≡ (linux_sll_of list).hardware_type)
IsOtherCapture list None = (r : Refusal) × Refuses sources.Slice list kinds.LinuxSll r
