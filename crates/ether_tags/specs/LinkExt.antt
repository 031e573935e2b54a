-- Link extensions by cases: a VLAN tag or a MACsec SecTag.
use Rattle.std.specs.Prelude.{◌≡◌, ℕ, length, slice_range, Option, Some, None}
use Rattle.ether_base.specs.declared.len_source.LenSource.TheVariants as sources
use Rattle.ether_base.specs.Formats.Vlan.{vlan_of}
use Rattle.ether_base.specs.Formats.Macsec.{sec_tag_of}
use Rattle.ether_base.specs.Formats.Header.{Header, header_len}
use Rattle.ether_base.specs.Formats.Header as headers
use Rattle.ether_tags.specs.Vlan.{vlan_view}
use Rattle.ether_tags.specs.Macsec.{sec_tag_view, tag_bytes, readable_payload, SameTagged}
use Rattle.ether_tags.specs.declared.ether_payload_slice.EtherPayloadSlice.{EtherPayloadSlice}
use Rattle.ether_tags.specs.declared.link_ext_header.LinkExtHeader.{LinkExtHeader}
use Rattle.ether_tags.specs.declared.link_ext_header.LinkExtHeader.TheVariants as values
use Rattle.ether_tags.specs.declared.link_ext_slice.LinkExtSlice.{LinkExtSlice}
use Rattle.ether_tags.specs.declared.link_ext_slice.LinkExtSlice.TheVariants.{Vlan, Macsec}

-- the header of the wire format
abbrev pub ext_header_view : LinkExtHeader → Header
ext_header_view (values.Vlan h) = headers.Vlan (vlan_view h)
ext_header_view (values.Macsec h) = headers.Macsec (sec_tag_view h)

abbrev pub ext_header_len : LinkExtHeader → ℕ
ext_header_len h = header_len (ext_header_view h)

-- the header that a view's bytes mean
abbrev pub ext_slice_header : LinkExtSlice → Header
ext_slice_header (Vlan s) = headers.Vlan (vlan_of s)
ext_slice_header (Macsec s) = headers.Macsec (sec_tag_of (tag_bytes s.header))

abbrev pub ext_slice_len : LinkExtSlice → ℕ
ext_slice_len (Vlan s) = 4
ext_slice_len (Macsec s) = length (tag_bytes s.header)

-- the payload after a VLAN tag, or that of a SecTag if it can be read
abbrev pub HoldsExtPayload : LinkExtSlice → Option EtherPayloadSlice → Type 0
HoldsExtPayload (Vlan s) None = ⊥
HoldsExtPayload (Vlan s) (Some p) =
    (p.ether_type.0 ≡ (vlan_of s).ether_type) × (p.len_source ≡ sources.Slice)
    × (p.payload.now ≡ slice_range s 4 (length s))
HoldsExtPayload (Macsec s) answer = answer ≡ readable_payload s.payload

-- views of one kind, a VLAN tag with the same bytes or a SecTag with the same bytes and payload
abbrev pub SameExt : LinkExtSlice → LinkExtSlice → Type 0
SameExt (Vlan a) (Vlan b) = a ≡ b
SameExt (Vlan a) (Macsec b) = ⊥
SameExt (Macsec a) (Vlan b) = ⊥
SameExt (Macsec a) (Macsec b) = SameTagged a b
