-- The packets of links by cases: their headers, their payloads, and what names the lengths of the payloads.
use Rattle.std.specs.Prelude.{◌≡◌, ℕ, List, length, slice_range, Option, Some, None}
use Rattle.std.specs.Borrow.{LendsIf, MutBor, Fml}
use Rattle.ether_base.specs.declared.len_source.LenSource.{LenSource}
use Rattle.ether_base.specs.declared.len_source.LenSource.TheVariants as sources
use Rattle.ether_base.specs.declared.linux_sll_protocol_type.LinuxSllProtocolType.{LinuxSllProtocolType}
use Rattle.ether_base.specs.declared.linux_sll_protocol_type.LinuxSllProtocolType.TheVariants as protocols
use Rattle.ether_base.specs.Formats.Ethernet2.{Ethernet2Value, ethernet2_of}
use Rattle.ether_base.specs.Formats.LinuxSll.{LinuxSllValue, linux_sll_of}
use Rattle.ether_tags.specs.declared.ethernet2_header.Ethernet2Header.{Ethernet2Header}
use Rattle.ether_tags.specs.contracts.ethernet2_header.Ethernet2Header.{the_row as ethernet2_row}
use Rattle.ether_tags.specs.Ethernet2.{payload_of, ethernet2_view}
use Rattle.ether_sll.specs.declared.linux_sll_header.LinuxSllHeader.{LinuxSllHeader}
use Rattle.ether_sll.specs.contracts.linux_sll_header.LinuxSllHeader.{the_row as linux_sll_row}
use Rattle.ether_sll.specs.declared.link_header.LinkHeader.{LinkHeader}
use Rattle.ether_sll.specs.declared.link_header.LinkHeader.TheVariants as link_headers
use Rattle.ether_sll.specs.contracts.link_header.LinkHeader.{the_row as link_row}
use Rattle.ether_sll.specs.declared.link_slice.LinkSlice.{LinkSlice}
use Rattle.ether_sll.specs.declared.link_slice.LinkSlice.TheVariants as link_slices
use Rattle.ether_sll.specs.LinuxSll.{protocol_type_of_header, linux_sll_view}

-- ---- headers

abbrev pub ethernet2_header : LinkHeader → Option Ethernet2Header
ethernet2_header (link_headers.LinuxSll h) = None
ethernet2_header (link_headers.Ethernet2 h) = Some h

abbrev pub linux_sll_header : LinkHeader → Option LinuxSllHeader
linux_sll_header (link_headers.LinuxSll h) = Some h
linux_sll_header (link_headers.Ethernet2 h) = None

abbrev pub link_header_len : LinkHeader → ℕ
link_header_len (link_headers.LinuxSll h) = 16
link_header_len (link_headers.Ethernet2 h) = 14

-- what is written through the lent header is in the link's header; a link of the other kind is unchanged
abbrev pub LendsEthernet2 : MutBor LinkHeader → Option (MutBor Ethernet2Header) → Fml
LendsEthernet2 s r = LendsIf link_row ethernet2_row s r link_headers.Ethernet2 s.now

abbrev pub LendsLinuxSll : MutBor LinkHeader → Option (MutBor LinuxSllHeader) → Fml
LendsLinuxSll s r = LendsIf link_row linux_sll_row s r link_headers.LinuxSll s.now

-- the header as a value; that of cooked capture also has its protocol type
pub data LinkValue : Type 0 where
  Ethernet2 : Ethernet2Value → LinkValue
  LinuxSll : LinuxSllValue → LinuxSllProtocolType → LinkValue

abbrev pub header_value : Option LinkHeader → Option LinkValue
header_value None = None
header_value (Some (link_headers.LinuxSll h)) = Some (LinuxSll (linux_sll_view h) h.protocol_type)
header_value (Some (link_headers.Ethernet2 h)) = Some (Ethernet2 (ethernet2_view h))

abbrev pub link_value : LinkSlice → Option LinkValue
link_value (link_slices.Ethernet2 f) = Some (Ethernet2 (ethernet2_of f.bytes))
link_value (link_slices.LinuxSll s) = Some (LinuxSll (linux_sll_of s) (protocol_type_of_header s))
link_value (link_slices.EtherPayload p) = None
link_value (link_slices.LinuxSllPayload p) = None

-- ---- payloads

abbrev pub link_protocol : LinkSlice → LinuxSllProtocolType
link_protocol (link_slices.Ethernet2 f) = protocols.EtherType (record { 0 = (ethernet2_of f.bytes).ether_type })
link_protocol (link_slices.LinuxSll s) = protocol_type_of_header s
link_protocol (link_slices.EtherPayload p) = protocols.EtherType p.ether_type
link_protocol (link_slices.LinuxSllPayload p) = p.protocol_type

abbrev pub link_payload : LinkSlice → List ℕ
link_payload (link_slices.Ethernet2 f) = payload_of f
link_payload (link_slices.LinuxSll s) = slice_range s 16 (length s)
link_payload (link_slices.EtherPayload p) = p.payload.now
link_payload (link_slices.LinuxSllPayload p) = p.payload.now

-- Where the payload's length comes from: an ether payload says so itself, any other ends with its slice.
abbrev pub link_source : LinkSlice → LenSource
link_source (link_slices.Ethernet2 f) = sources.Slice
link_source (link_slices.LinuxSll s) = sources.Slice
link_source (link_slices.EtherPayload p) = p.len_source
link_source (link_slices.LinuxSllPayload p) = sources.Slice

-- ---- equality

-- views of one kind with the same bytes and fields
abbrev pub SameLink : LinkSlice → LinkSlice → Type 0
SameLink (link_slices.Ethernet2 a) (link_slices.Ethernet2 b) = a ≡ b
SameLink (link_slices.LinuxSll a) (link_slices.LinuxSll b) = a ≡ b
SameLink (link_slices.EtherPayload a) (link_slices.EtherPayload b) =
    (a.ether_type ≡ b.ether_type) × (a.len_source ≡ b.len_source) × (a.payload.now ≡ b.payload.now)
SameLink (link_slices.LinuxSllPayload a) (link_slices.LinuxSllPayload b) =
    (a.protocol_type ≡ b.protocol_type) × (a.payload.now ≡ b.payload.now)
SameLink a b = ⊥
