-- MACsec SecTags as the values that their bytes mean, and their refusals as rows of the table.
use Rattle.std.specs.Prelude.{◌≡◌, ℕ, ◌+◌, List, length, slice_range, Option, Some, None, option_map, nat_lt, if◌then◌else◌}
use Rattle.ether_base.specs.declared.len_source.LenSource.{LenSource}
use Rattle.ether_base.specs.declared.len_source.LenSource.TheVariants as sources
use Rattle.ether_base.specs.declared.err.layer.Layer.TheVariants as layers
use Rattle.ether_base.specs.declared.err.macsec.header_error.HeaderError.{HeaderError}
use Rattle.ether_base.specs.declared.err.macsec.header_error.HeaderError.TheVariants as contents
use Rattle.ether_base.specs.declared.header_slice_error.HeaderSliceError.{HeaderSliceError}
use Rattle.ether_base.specs.declared.header_slice_error.HeaderSliceError.TheVariants.{Len, Content}
use Rattle.ether_base.specs.Formats.Macsec.{PayloadType, SecTagFront, SecTagValue, known_payload_len, sec_tag_len, sec_tag_front_in, sec_tag_front_of, sec_tag_of}
use Rattle.ether_base.specs.declared.ether_type.EtherType.{EtherType}
use Rattle.ether_base.specs.Formats.Macsec as payloads
use Rattle.ether_base.specs.Formats.Kind as kinds
use Rattle.ether_base.specs.Formats.Refusal.{Refusal, Length, UnexpectedVersion, InvalidShortLen, Refuses, RefusesHeader}
use Rattle.ether_tags.specs.declared.macsec_p_type.MacsecPType.{MacsecPType}
use Rattle.ether_tags.specs.declared.macsec_p_type.MacsecPType.TheVariants.{Unmodified, Modified, Encrypted, EncryptedUnmodified}
use Rattle.ether_base.specs.Bytes.{bit}
use Rattle.ether_tags.specs.declared.ether_payload_slice.EtherPayloadSlice.{EtherPayloadSlice}
use Rattle.ether_tags.specs.declared.macsec_payload_slice.MacsecPayloadSlice.{MacsecPayloadSlice}
use Rattle.ether_tags.specs.declared.macsec_payload_slice.MacsecPayloadSlice.TheVariants as kept
use Rattle.ether_tags.specs.declared.macsec_header.MacsecHeader.{MacsecHeader}
use Rattle.ether_tags.specs.declared.macsec_header_slice.MacsecHeaderSlice.{MacsecHeaderSlice}
use Rattle.ether_tags.specs.declared.macsec_slice.MacsecSlice.{MacsecSlice}

abbrev pub payload_type_view : MacsecPType → PayloadType
payload_type_view (Unmodified ether_type) = payloads.Unmodified ether_type.0
payload_type_view Modified = payloads.Modified
payload_type_view Encrypted = payloads.Encrypted
payload_type_view EncryptedUnmodified = payloads.EncryptedUnmodified

-- the ether type that can be read after a tag
abbrev pub readable_type : PayloadType → Option ℕ
readable_type (payloads.Unmodified ether_type) = Some ether_type
readable_type _ = None

-- a tag as the value of the wire format
abbrev pub sec_tag_view : MacsecHeader → SecTagValue
sec_tag_view h = record {
  payload_type = payload_type_view h.ptype;
  end_station = bit h.endstation_id;
  single_copy_broadcast = bit h.scb;
  association_number = h.an;
  short_len = h.short_len;
  packet_number = h.packet_nr;
  sci = h.sci;
}

-- the front of its bytes, with version and reserved bits 0
abbrev pub header_front : MacsecHeader → SecTagFront
header_front h = sec_tag_front_of 0 0 (sec_tag_view h)

-- the number of an ether type, if there is one
abbrev pub number_of : Option EtherType → Option ℕ
number_of = option_map (λ ether_type. ether_type.0)

-- the short length for a payload of n bytes: n, and 2 for an ether type that can be read; 0 if the sum is above 63
abbrev pub short_len_for : PayloadType → ℕ → ℕ
short_len_for (payloads.Unmodified ether_type) n = if nat_lt n 62 then n + 2 else 0
short_len_for _ n = if nat_lt n 64 then n else 0

-- the bytes of a view of a tag, and its front
abbrev pub tag_bytes : MacsecHeaderSlice → List ℕ
tag_bytes h = h.slice.now

abbrev pub tag_front : MacsecHeaderSlice → SecTagFront
tag_front h = sec_tag_front_in (tag_bytes h)

-- the tag that a list begins with
abbrev pub tag_in : List ℕ → List ℕ
tag_in bytes = slice_range bytes 0 (sec_tag_len (sec_tag_front_in bytes))

-- E and C are 0, so that an ether type follows the tag
abbrev pub IsUnmodified : SecTagFront → Type 0
IsUnmodified front = (front.encrypted ≡ 0) × (front.changed ≡ 0)

-- a row as an error, which counts from the slice's start
abbrev pub IsRow : HeaderSliceError HeaderError → Refusal → Type 0
IsRow (Len e) r = (r ≡ Length e.required_len e.len e.len_source e.layer) × (e.layer_start_offset ≡ 0)
IsRow (Content contents.UnexpectedVersion) r = r ≡ UnexpectedVersion
IsRow (Content contents.InvalidUnmodifiedShortLen) r = r ≡ InvalidShortLen

-- a slice is refused as a tag, whatever its payload
pub record IsRefusedTag (bytes : List ℕ) (e : HeaderSliceError HeaderError) : Type 0 where
  pub refusal : Refusal
  pub row : RefusesHeader sources.Slice bytes kinds.Macsec refusal
  pub is : IsRow e refusal

-- a slice is refused as a tag with its payload
pub record IsRefusedPacket (bytes : List ℕ) (e : HeaderSliceError HeaderError) : Type 0 where
  pub refusal : Refusal
  pub row : Refuses sources.Slice bytes kinds.Macsec refusal
  pub is : IsRow e refusal

-- ---- payloads

-- where the payload after n bytes of tag ends: after the length that is named, or with the whole slice
abbrev pub payload_end : Option ℕ → ℕ → ℕ → ℕ
payload_end None n whole = whole
payload_end (Some p) n whole = n + p

-- the same, by the front of the tag
abbrev pub payload_end_after : SecTagFront → ℕ → ℕ
payload_end_after front whole = payload_end (known_payload_len front) (sec_tag_len front) whole

-- a slice is too short for a tag and the payload whose length it names
abbrev pub cut_payload : (required len : ℕ) → HeaderSliceError HeaderError
cut_payload required len =
    Len (record {
      required_len = required;
      len = len;
      len_source = sources.MacsecShortLength;
      layer = layers.MacsecPacket;
      layer_start_offset = 0;
    })

-- what named the payload's length
abbrev pub payload_source : Option ℕ → LenSource
payload_source None = sources.Slice
payload_source (Some p) = sources.MacsecShortLength

-- the payload after the tag with this front that a list begins with
abbrev pub payload_in : SecTagFront → List ℕ → List ℕ
payload_in front bytes = slice_range bytes (sec_tag_len front) (payload_end_after front (length bytes))

-- a payload with its type exactly if E and C are 0
abbrev pub HoldsTyped : MacsecPayloadSlice → Option ℕ → LenSource → List ℕ → Type 0
HoldsTyped (kept.Unmodified p) (Some ether_type) source bytes =
    (p.ether_type.0 ≡ ether_type) × (p.len_source ≡ source) × (p.payload.now ≡ bytes)
HoldsTyped (kept.Modified p) None source bytes = p.now ≡ bytes
HoldsTyped _ _ source bytes = ⊥

abbrev pub HoldsPayload : MacsecPayloadSlice → SecTagFront → List ℕ → Type 0
HoldsPayload p front bytes =
    HoldsTyped p (readable_type (sec_tag_of bytes).payload_type) (payload_source (known_payload_len front))
    (payload_in front bytes)

-- the payload with its type, if it is neither encrypted nor changed
abbrev pub readable_payload : MacsecPayloadSlice → Option EtherPayloadSlice
readable_payload (kept.Unmodified p) = Some p
readable_payload (kept.Modified p) = None

-- payloads of one variant with the same fields
abbrev pub SamePayload : MacsecPayloadSlice → MacsecPayloadSlice → Type 0
SamePayload (kept.Unmodified p) (kept.Unmodified q) =
    (p.ether_type ≡ q.ether_type) × (p.len_source ≡ q.len_source) × (p.payload.now ≡ q.payload.now)
SamePayload (kept.Unmodified p) (kept.Modified q) = ⊥
SamePayload (kept.Modified p) (kept.Unmodified q) = ⊥
SamePayload (kept.Modified p) (kept.Modified q) = p.now ≡ q.now

-- tags of the same bytes with the same payload
abbrev pub SameTagged : MacsecSlice → MacsecSlice → Type 0
SameTagged a b = (tag_bytes a.header ≡ tag_bytes b.header) × SamePayload a.payload b.payload
