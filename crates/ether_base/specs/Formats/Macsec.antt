-- The MACsec SecTag (IEEE 802.1AE, 9.3) without its own ether type, with the ether type that follows it if that can be
-- read.
use Rattle.std.specs.Prelude.{◌≡◌, ℕ, zero, suc, ◌+◌, ◌*◌, ◌/◌, ◌%◌, ◌^◌, ◌<◌, ◌-◌, ◌||◌, nat_eq, nat_lt, if◌then◌else◌, List, [], ◌++◌, slice_range, Option, Some, None}
use Rattle.ether_base.specs.Bytes.{number, spelled}

-- ---- the first two bytes (9.5 tag control information, 9.6 association number, 9.7 short length)

pub record SecTagFront : Type 0 where
  pub version : ℕ
  pub end_station : ℕ
  pub sci_present : ℕ
  pub single_copy_broadcast : ℕ
  pub encrypted : ℕ
  pub changed : ℕ
  pub association_number : ℕ
  pub reserved : ℕ
  pub short_len : ℕ

-- V, ES, SC, SCB, E, C, two bits AN; two reserved bits, six bits SL
abbrev pub sec_tag_front_number : SecTagFront → ℕ
sec_tag_front_number t = t.version * 2 ^ 15 + t.end_station * 2 ^ 14 + t.sci_present * 2 ^ 13 + t.single_copy_broadcast
    * 2 ^ 12 + t.encrypted * 2 ^ 11 + t.changed * 2 ^ 10 + t.association_number * 2 ^ 8 + t.reserved * 2 ^ 6
    + t.short_len

pub record FitsSecTagFront (t : SecTagFront) : Type 0 where
  pub version : t.version < 2
  pub end_station : t.end_station < 2
  pub sci_present : t.sci_present < 2
  pub single_copy_broadcast : t.single_copy_broadcast < 2
  pub encrypted : t.encrypted < 2
  pub changed : t.changed < 2
  pub association_number : t.association_number < 4
  pub reserved : t.reserved < 4
  pub short_len : t.short_len < 64

-- a list begins with two bytes that mean a front
pub record BeginsSecTag (bytes : List ℕ) (t : SecTagFront) : Type 0 where
  pub sum : number (slice_range bytes 0 2) ≡ sec_tag_front_number t
  pub fits : FitsSecTagFront t

-- ---- lengths

-- the length of the ether type, which can be read exactly if E and C are 0
abbrev pub ether_type_len : ℕ → ℕ → ℕ
ether_type_len zero zero = 2
ether_type_len _ _ = 0

-- the header's length, 6 to 16: two bytes, the packet number (9.8), the SCI if there is one (9.9), the ether type
abbrev pub sec_tag_len : SecTagFront → ℕ
sec_tag_len t = 6 + 8 * t.sci_present + ether_type_len t.encrypted t.changed

-- The length of the payload that a short length names. The short length also counts the ether type after the tag, if
-- that can be read. It names no length if it is 0 or smaller than that ether type.
abbrev pub known_len : (ether_type short : ℕ) → Option ℕ
known_len ether_type short = if nat_eq short 0 || nat_lt short ether_type then None else Some (short - ether_type)

abbrev pub known_payload_len : SecTagFront → Option ℕ
known_payload_len t = known_len (ether_type_len t.encrypted t.changed) t.short_len

-- ---- a tag as a value

pub data PayloadType : Type 0 where
  Unmodified : (ether_type : ℕ) → PayloadType
  Modified : PayloadType
  EncryptedUnmodified : PayloadType
  Encrypted : PayloadType

-- the version and the reserved bits are no part of it
pub record SecTagValue : Type 0 where
  pub payload_type : PayloadType
  pub end_station : ℕ
  pub single_copy_broadcast : ℕ
  pub association_number : ℕ
  pub short_len : ℕ
  pub packet_number : ℕ
  pub sci : Option ℕ

-- E
abbrev pub encrypted_of : PayloadType → ℕ
encrypted_of EncryptedUnmodified = 1
encrypted_of Encrypted = 1
encrypted_of _ = 0

-- C
abbrev pub changed_of : PayloadType → ℕ
changed_of Modified = 1
changed_of Encrypted = 1
changed_of _ = 0

-- SC
abbrev pub sci_present_of : Option ℕ → ℕ
sci_present_of None = 0
sci_present_of (Some sci) = 1

-- the front of a tag with this version and these reserved bits
abbrev pub sec_tag_front_of : ℕ → ℕ → SecTagValue → SecTagFront
sec_tag_front_of version reserved t = record {
  version = version;
  end_station = t.end_station;
  sci_present = sci_present_of t.sci;
  single_copy_broadcast = t.single_copy_broadcast;
  encrypted = encrypted_of t.payload_type;
  changed = changed_of t.payload_type;
  association_number = t.association_number;
  reserved = reserved;
  short_len = t.short_len;
}

-- the SCI, if there is one, follows the first six bytes
abbrev pub HasSci : List ℕ → Option ℕ → Type 0
HasSci bytes None = Unit {0}
HasSci bytes (Some sci) = number (slice_range bytes 6 14) ≡ sci

-- the ether type, if it can be read, begins at a place
abbrev pub HasEtherType : List ℕ → ℕ → PayloadType → Type 0
HasEtherType bytes at (Unmodified ether_type) = number (slice_range bytes at (at + 2)) ≡ ether_type
HasEtherType bytes at _ = Unit {0}

-- the bytes of a tag mean a value
pub record IsSecTag (bytes : List ℕ) (t : SecTagValue) : Type 0 where
  pub version : ℕ
  pub reserved : ℕ
  pub front : BeginsSecTag bytes (sec_tag_front_of version reserved t)
  pub packet_number : number (slice_range bytes 2 6) ≡ t.packet_number
  pub sci : HasSci bytes t.sci
  pub ether_type : HasEtherType bytes (6 + 8 * sci_present_of t.sci) t.payload_type

-- ---- reading

-- the front whose number this is
abbrev pub sec_tag_front_at : ℕ → SecTagFront
sec_tag_front_at n = record {
  version = n / 2 ^ 15;
  end_station = n / 2 ^ 14 % 2;
  sci_present = n / 2 ^ 13 % 2;
  single_copy_broadcast = n / 2 ^ 12 % 2;
  encrypted = n / 2 ^ 11 % 2;
  changed = n / 2 ^ 10 % 2;
  association_number = n / 2 ^ 8 % 4;
  reserved = n / 2 ^ 6 % 4;
  short_len = n % 2 ^ 6;
}

-- the front in a list of at least two bytes
abbrev pub sec_tag_front_in : List ℕ → SecTagFront
sec_tag_front_in bytes = sec_tag_front_at (number (slice_range bytes 0 2))

-- the payload type by E and C; the ether type is part of it only if both are 0
abbrev pub payload_type_for : (encrypted changed ether_type : ℕ) → PayloadType
payload_type_for zero zero ether_type = Unmodified ether_type
payload_type_for zero (suc changed) ether_type = Modified
payload_type_for (suc encrypted) zero ether_type = EncryptedUnmodified
payload_type_for (suc encrypted) (suc changed) ether_type = Encrypted

-- the SCI if SC is 1
abbrev pub sci_for : (sci_present sci : ℕ) → Option ℕ
sci_for zero sci = None
sci_for (suc present) sci = Some sci

-- the value of a list with this front
abbrev pub sec_tag_with : SecTagFront → List ℕ → SecTagValue
sec_tag_with front bytes = let at = 6 + 8 * front.sci_present in record {
  payload_type = payload_type_for front.encrypted front.changed (number (slice_range bytes at (at + 2)));
  end_station = front.end_station;
  single_copy_broadcast = front.single_copy_broadcast;
  association_number = front.association_number;
  short_len = front.short_len;
  packet_number = number (slice_range bytes 2 6);
  sci = sci_for front.sci_present (number (slice_range bytes 6 14));
}

-- the value in a list that is at least as long as its front says
abbrev pub sec_tag_of : List ℕ → SecTagValue
sec_tag_of bytes = sec_tag_with (sec_tag_front_in bytes) bytes

-- ---- ranges and bytes

abbrev pub FitsSci : Option ℕ → Type 0
FitsSci None = Unit {0}
FitsSci (Some sci) = sci < 2 ^ 64

abbrev pub FitsPayloadType : PayloadType → Type 0
FitsPayloadType (Unmodified ether_type) = ether_type < 2 ^ 16
FitsPayloadType Modified = Unit {0}
FitsPayloadType EncryptedUnmodified = Unit {0}
FitsPayloadType Encrypted = Unit {0}

pub record FitsSecTag (t : SecTagValue) : Type 0 where
  pub front : FitsSecTagFront (sec_tag_front_of 0 0 t)
  pub packet_number : t.packet_number < 2 ^ 32
  pub sci : FitsSci t.sci
  pub payload_type : FitsPayloadType t.payload_type

abbrev pub sci_bytes : Option ℕ → List ℕ
sci_bytes None = []
sci_bytes (Some sci) = spelled 8 sci

abbrev pub ether_type_bytes : PayloadType → List ℕ
ether_type_bytes (Unmodified ether_type) = spelled 2 ether_type
ether_type_bytes _ = []

-- the bytes of a value, with version and reserved bits 0
abbrev pub sec_tag_bytes : SecTagValue → List ℕ
sec_tag_bytes t = spelled 2 (sec_tag_front_number (sec_tag_front_of 0 0 t)) ++ spelled 4 t.packet_number
    ++ sci_bytes t.sci ++ ether_type_bytes t.payload_type
