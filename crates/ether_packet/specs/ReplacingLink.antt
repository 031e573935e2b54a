-- Replacing a link's header in place.
use Rattle.std.specs.Prelude.{◌≡◌, ◌≢◌, ℕ, List, [], ◌∷◌, length, Bool, true, false, ⊤}
use Rattle.etherparse.specs.Types.LinkHeader.{LinkHeader}
use Rattle.etherparse.specs.Types.LinkHeader.TheVariants as links
use Rattle.etherparse.specs.Bytes.{overwritten}
use Rattle.etherparse.specs.Ethernet2.{ethernet2_view}
use Rattle.etherparse.specs.LinuxSll.{LinuxSllValue, linux_sll_view}
use Rattle.etherparse.specs.LinuxSllProtocolType.{protocol_of}
use Rattle.etherparse.specs.Types.LinuxSllProtocolType.{LinuxSllProtocolType}
use Rattle.etherparse.specs.Kind.{Kind}
use Rattle.etherparse.specs.Kind as kinds
use Rattle.etherparse.specs.Header.{Header, kind_of, header_bytes, FitsHeader}
use Rattle.etherparse.specs.Header as headers
use Rattle.ether_peel.specs.Grammar.Expectation.{Expectation}
use Rattle.ether_peel.specs.Grammar.Stack.{Ending, Walk}
use Rattle.ether_packet.specs.declared.difference.Difference.{Difference}
use Rattle.ether_packet.specs.declared.difference.Difference.TheVariants as differences
use Rattle.ether_packet.specs.declared.replace_error.ReplaceError.{ReplaceError}
use Rattle.ether_packet.specs.declared.replace_error.ReplaceError.TheVariants as errors
use Rattle.ether_packet.specs.Builder.{link_header}

-- the kinds of a link's header
abbrev pub is_link : Kind → Bool
is_link kinds.Ethernet2 = true
is_link kinds.Ethernet2Fcs = true
is_link kinds.LinuxSll = true
is_link _ = false

-- the first of these headers is a link's
abbrev pub has_link : List Header → Bool
has_link [] = false
has_link (h ∷ hs) = is_link (kind_of h)

-- the protocol type of a cooked capture: its protocol number, read according to the hardware type
abbrev pub protocol_in : LinuxSllValue → LinuxSllProtocolType
protocol_in s = protocol_of s.hardware_type s.protocol

-- a link's header has the same kind as the header of a walk, and says the same about what follows it
abbrev pub LinkAgrees : LinkHeader → Header → Type 0
LinkAgrees (links.Ethernet2 g) (headers.Ethernet2 h) = g.ether_type.0 ≡ h.ether_type
LinkAgrees (links.Ethernet2 g) (headers.Ethernet2Fcs h) = g.ether_type.0 ≡ h.ether_type
LinkAgrees (links.LinuxSll g) (headers.LinuxSll h) =
    (g.arp_hrd_type.0 ≡ h.hardware_type) × (g.protocol_type ≡ protocol_in h)
LinkAgrees g h = ⊥

-- the first difference between a link's header and the header of a walk, in the order of kind and fields
abbrev pub LinkDiffers : LinkHeader → Header → Difference → Type 0
LinkDiffers (links.Ethernet2 g) (headers.LinuxSll h) differences.Kind = ⊤
LinkDiffers (links.LinuxSll g) (headers.Ethernet2 h) differences.Kind = ⊤
LinkDiffers (links.LinuxSll g) (headers.Ethernet2Fcs h) differences.Kind = ⊤
LinkDiffers (links.Ethernet2 g) (headers.Ethernet2 h) differences.EtherType = g.ether_type.0 ≢ h.ether_type
LinkDiffers (links.Ethernet2 g) (headers.Ethernet2Fcs h) differences.EtherType = g.ether_type.0 ≢ h.ether_type
LinkDiffers (links.LinuxSll g) (headers.LinuxSll h) differences.HardwareType = g.arp_hrd_type.0 ≢ h.hardware_type
LinkDiffers (links.LinuxSll g) (headers.LinuxSll h) differences.ProtocolType =
    (g.arp_hrd_type.0 ≡ h.hardware_type) × (g.protocol_type ≢ protocol_in h)
LinkDiffers g h d = ⊥

-- a link's header as a walk reads it in place of another one: with a frame check sequence if that one has one
abbrev pub in_place_of : LinkHeader → Header → Header
in_place_of (links.Ethernet2 g) (headers.Ethernet2Fcs h) = headers.Ethernet2Fcs (ethernet2_view g)
in_place_of g h = link_header g

-- g can replace the first of these headers
pub record TakesLink (hs : List Header) (g : LinkHeader) : Type 0 where
  pub replaced : Header
  pub later : List Header
  pub parts : hs ≡ replaced ∷ later
  pub same : LinkAgrees g replaced

-- In a list with the headers hs and this ending g replaces the first header. Only the bytes of that header change, and
-- the walk has all other headers and the ending as before.
pub record ReplacesLink (start : Expectation) (old : List ℕ) (hs : List Header) (e : Ending) (g : LinkHeader)
    (new : List ℕ) : Type 0 where
  pub takes : TakesLink hs g
  pub fits : FitsHeader (link_header g)
  pub bytes : new ≡ overwritten old 0 (header_bytes (link_header g))
  pub len : length new ≡ length old
  pub walk : Walk start new (in_place_of g takes.replaced ∷ takes.later) e

-- g does not replace the first header: it is not a link's, or this is the first difference between them
pub data RefusesLink (hs : List Header) (g : LinkHeader) : ReplaceError → Type 0 where
  no_link : has_link hs ≡ false → RefusesLink hs g errors.NoLink
  other_link : (h : Header) (later : List Header) (d : Difference)
      → hs ≡ h ∷ later → is_link (kind_of h) ≡ true → LinkDiffers g h d → RefusesLink hs g (errors.SaysOther d)

-- ---- how it is found

-- a link's header is the header of a walk
abbrev pub IsLinkOf : LinkHeader → Header → Type 0
IsLinkOf (links.Ethernet2 g) (headers.Ethernet2 h) = ethernet2_view g ≡ h
IsLinkOf (links.Ethernet2 g) (headers.Ethernet2Fcs h) = ethernet2_view g ≡ h
IsLinkOf (links.LinuxSll g) (headers.LinuxSll h) = (linux_sll_view g ≡ h) × (g.protocol_type ≡ protocol_in h)
IsLinkOf g h = ⊥

-- the first of these headers is this link's header
pub record BeginsWithLink (hs : List Header) (g : LinkHeader) : Type 0 where
  pub header : Header
  pub later : List Header
  pub parts : hs ≡ header ∷ later
  pub is : IsLinkOf g header

-- two links' headers have the same kind, and say the same about what follows them
abbrev pub LinksAgree : LinkHeader → LinkHeader → Type 0
LinksAgree (links.Ethernet2 g) (links.Ethernet2 h) = g.ether_type ≡ h.ether_type
LinksAgree (links.LinuxSll g) (links.LinuxSll h) =
    (g.arp_hrd_type ≡ h.arp_hrd_type) × (g.protocol_type ≡ h.protocol_type)
LinksAgree g h = ⊥

-- the first difference between two links' headers
abbrev pub LinksDiffer : LinkHeader → LinkHeader → Difference → Type 0
LinksDiffer (links.Ethernet2 g) (links.LinuxSll h) differences.Kind = ⊤
LinksDiffer (links.LinuxSll g) (links.Ethernet2 h) differences.Kind = ⊤
LinksDiffer (links.Ethernet2 g) (links.Ethernet2 h) differences.EtherType = g.ether_type ≢ h.ether_type
LinksDiffer (links.LinuxSll g) (links.LinuxSll h) differences.HardwareType = g.arp_hrd_type ≢ h.arp_hrd_type
LinksDiffer (links.LinuxSll g) (links.LinuxSll h) differences.ProtocolType =
    (g.arp_hrd_type ≡ h.arp_hrd_type) × (g.protocol_type ≢ h.protocol_type)
LinksDiffer g h d = ⊥
