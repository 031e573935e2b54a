-- A whole capture file of either format: the file header and the records of a classic file, or the blocks of a pcapng
-- file (draft-ietf-opsawg-pcap, section 3; draft-ietf-opsawg-pcapng, section 3).
use Rattle.std.specs.Prelude.{◌≡◌, ◌⊎◌, ℕ, ⊤, ◌+◌, ◌-◌, ◌*◌, ◌/◌, ◌%◌, ◌^◌, ◌<◌, ◌≤◌, List, [], ◌∷◌, ◌++◌, length, drop, Option, Some, None, unwrap_or, nat_lt, nat_eq, if◌then◌else◌}
use Rattle.std.specs.Option.{option_map}
use Rattle.ether_pcap.specs.Numbers.{Order}
use Rattle.ether_pcap.specs.FileHeader.{FileHeaderValue, IsFileHeader, FileRefusal, RefusesFile}
use Rattle.ether_pcap.specs.FileHeader as file
use Rattle.ether_pcap.specs.Record.{RecordValue, RecordRefusal, BeginsRecord, RefusesRecord, record_len, nanoseconds_of}
use Rattle.ether_pcap.specs.Record as record_rows
use Rattle.ether_pcap.specs.Block.{BlockValue, BlockRefusal, BeginsBlock, RefusesBlock}
use Rattle.ether_pcap.specs.Block as block_rows
use Rattle.ether_pcap.specs.Section.{SectionRefusal, section_type, HasSectionType, IsSection, RefusesSection}
use Rattle.ether_pcap.specs.Section as section_rows
use Rattle.ether_pcap.specs.Options.{OptionValue, HasOptions, value_of, byte_of, number_of}
use Rattle.ether_pcap.specs.Bodies.{BodyRefusal, InterfaceValue, IsInterface, RefusesInterface, EnhancedPacketValue, IsEnhancedPacket, RefusesEnhancedPacket, SimplePacketValue, IsSimplePacket, RefusesSimplePacket}

-- ---- packets

-- a time since the beginning of 1970, UTC: seconds, and nanoseconds below one second
pub record TimeValue : Type 0 where
  pub seconds : ℕ
  pub nanoseconds : ℕ

abbrev pub time_of : (nanoseconds : ℕ) → TimeValue
time_of n = record { seconds = n / 10 ^ 9; nanoseconds = n % 10 ^ 9 }

-- whether an interface received a packet or sent it
pub data DirectionValue : Type 0 where
  Inbound : DirectionValue
  Outbound : DirectionValue

-- A captured packet: its time, the number of its interface, its direction and a comment on it, if the file gives them;
-- its length before it was cut; the link type, snap length and length of the frame check sequence that the file gives
-- for it; and its captured bytes.
pub record PacketValue : Type 0 where
  pub time : Option TimeValue
  pub interface : Option ℕ
  pub direction : Option DirectionValue
  pub comment : Option (List ℕ)
  pub original_len : ℕ
  pub link_type : ℕ
  pub snap_len : ℕ
  pub fcs_len : Option ℕ
  pub packet : List ℕ

abbrev pub packet_of_record : FileHeaderValue → RecordValue → PacketValue
packet_of_record h r = record {
  time = Some (time_of (nanoseconds_of h.resolution r.seconds r.fraction));
  interface = None;
  direction = None;
  comment = None;
  original_len = r.original_len;
  link_type = h.link_type;
  snap_len = h.snap_len;
  fcs_len = h.fcs_len;
  packet = r.packet;
}

-- .. with no more captured bytes than the snap length (draft-ietf-opsawg-pcap, section 4; draft-ietf-opsawg-pcapng,
-- section 4.2), where 0 is no limit
abbrev pub IsWithinSnap : PacketValue → Type 0
IsWithinSnap p = (p.snap_len ≡ 0) ⊎ (length p.packet ≤ p.snap_len)

-- ---- interfaces of a section

-- What a section says of an interface: link type, snap length, length of the frame check sequence, the value of
-- if_tsresol, and that of if_tsoffset, seconds in two's complement, as the number that its 64 bits are.
pub record CaptureInterfaceValue : Type 0 where
  pub link_type : ℕ
  pub snap_len : ℕ
  pub fcs_len : Option ℕ
  pub resolution : Option ℕ
  pub offset : ℕ

-- The length of the frame check sequence in bytes. By the description of the format the option counts bits, but most
-- writers write bytes: 16 and 32 are read as bits, other numbers as bytes.
abbrev pub fcs_bytes : ℕ → ℕ
fcs_bytes n = if nat_eq n 32 then 4 else (if nat_eq n 16 then 2 else n)

-- the options if_fcslen (13), if_tsresol (9) and if_tsoffset (14) of an interface description (4.2)
abbrev pub described_by : Order → InterfaceValue → List OptionValue → CaptureInterfaceValue
described_by order i options = record {
  link_type = i.link_type;
  snap_len = i.snap_len;
  fcs_len = option_map fcs_bytes (byte_of (value_of 13 options));
  resolution = byte_of (value_of 9 options);
  offset = unwrap_or (number_of order 8 (value_of 14 options)) 0;
}

-- the body of an interface description
pub record Describes (order : Order) (body : List ℕ) (v : CaptureInterfaceValue) : Type 0 where
  pub interface : InterfaceValue
  pub options : List OptionValue
  pub is_interface : IsInterface order body interface
  pub has_options : HasOptions order interface.options options
  pub value : described_by order interface options ≡ v

-- ticks per second: 10^n if the number n is below 128, else 2^(n - 128); a million if there is no number
abbrev pub units_of : Option ℕ → ℕ
units_of None = 10 ^ 6
units_of (Some n) = if nat_lt n 128 then 10 ^ n else 2 ^ (n - 128)

-- The sum of seconds and an offset of 64 bits in two's complement. None if it is before 1970 or does not fit in 64
-- bits.
abbrev pub shifted : (offset seconds : ℕ) → Option ℕ
shifted offset seconds =
    if nat_lt offset (2 ^ 63) then (if nat_lt (seconds + offset) (2 ^ 64) then Some (seconds + offset) else None)
    else (if nat_lt (seconds + offset) (2 ^ 64) then None else Some (seconds + offset - 2 ^ 64))

-- the time of a number of ticks on an interface, rounded down to a nanosecond
abbrev pub time_on : CaptureInterfaceValue → ℕ → Option TimeValue
time_on i n =
    let t = time_of (n * 10 ^ 9 / units_of i.resolution) in
    option_map (λ seconds. record { seconds = seconds; nanoseconds = t.nanoseconds }) (shifted i.offset t.seconds)

-- the interface with this number, counted from 0
pub record IsAt (interfaces : List CaptureInterfaceValue) (n : ℕ) (i : CaptureInterfaceValue) : Type 0 where
  pub before : List CaptureInterfaceValue
  pub after : List CaptureInterfaceValue
  pub parts : interfaces ≡ before ++ i ∷ after
  pub number : length before ≡ n

-- ---- units

-- What may follow at a place of a file: at its beginning either format; after this header a record; in a section of
-- this byte order that has described these interfaces a block. A section may describe up to `most` interfaces.
pub data CaptureExpectation : Type 0 where
  Beginning : (most : ℕ) → CaptureExpectation
  Records : FileHeaderValue → CaptureExpectation
  Blocks : (most : ℕ) → Order → List CaptureInterfaceValue → CaptureExpectation

-- the length of the frame check sequence in the flags of a packet (4.3.1): bits 5 to 8, where 0 is unknown
abbrev pub fcs_in_flags : Option ℕ → Option ℕ
fcs_in_flags None = None
fcs_in_flags (Some flags) = let n = flags / 2 ^ 5 % 2 ^ 4 in if nat_eq n 0 then None else Some n

-- .. which has precedence over that of the interface
abbrev pub fcs_of : (of_packet of_interface : Option ℕ) → Option ℕ
fcs_of None n = n
fcs_of (Some n) m = Some n

-- the direction in the flags of a packet (4.3.1): bits 0 and 1, where 1 is inbound and 2 is outbound
abbrev pub direction_in_flags : Option ℕ → Option DirectionValue
direction_in_flags None = None
direction_in_flags (Some flags) =
    let n = flags % 2 ^ 2 in if nat_eq n 1 then Some Inbound else (if nat_eq n 2 then Some Outbound else None)

-- what a packet's block, its interface, its option epb_flags or pack_flags (2) and its first comment (1) say of it
abbrev pub packet_on : Order → CaptureInterfaceValue → EnhancedPacketValue → List OptionValue → PacketValue
packet_on order i p options = record {
  time = time_on i p.time;
  interface = Some p.interface;
  direction = direction_in_flags (number_of order 4 (value_of 2 options));
  comment = value_of 1 options;
  original_len = p.original_len;
  link_type = i.link_type;
  snap_len = i.snap_len;
  fcs_len = fcs_of (fcs_in_flags (number_of order 4 (value_of 2 options))) i.fcs_len;
  packet = p.packet;
}

-- what a simple packet's block, which has no time, and the first interface say of it (4.4)
abbrev pub simple_packet_on : CaptureInterfaceValue → SimplePacketValue → PacketValue
simple_packet_on i p =
    record {
      time = None;
      interface = Some 0;
      direction = None;
      comment = None;
      original_len = p.original_len;
      link_type = i.link_type;
      snap_len = i.snap_len;
      fcs_len = i.fcs_len;
      packet = p.packet;
    }

-- How the body of a block is read, by its type. EnhancedPacket has the number of bytes of its interface: 4, or 2 in
-- the obsolete packet block.
pub data BlockKind : Type 0 where
  InterfaceDescription : BlockKind
  SimplePacket : BlockKind
  EnhancedPacket : (number_len : ℕ) → BlockKind
  Other : BlockKind

abbrev pub kind_of_block : ℕ → BlockKind
kind_of_block n =
    if nat_eq n 1 then InterfaceDescription
    else (if nat_eq n 2 then EnhancedPacket 2
    else (if nat_eq n 3 then SimplePacket else (if nat_eq n 6 then EnhancedPacket 4 else Other)))

-- the body of a block in a section that has described the interfaces before: the packet if there is one, and the
-- interfaces after the block
abbrev pub IsBody : BlockKind → (most : ℕ) → Order → (before : List CaptureInterfaceValue) → (body : List ℕ)
    → Option PacketValue → (after : List CaptureInterfaceValue) → Type 0
IsBody InterfaceDescription most order before body packet after =
    (i : CaptureInterfaceValue) × Describes order body i × (length before < most) × (packet ≡ None)
    × (after ≡ before ++ i ∷ [])
IsBody SimplePacket most order before body packet after =
    (i : CaptureInterfaceValue) × (p : SimplePacketValue) × IsAt before 0 i × IsSimplePacket order i.snap_len body p
    × (packet ≡ Some (simple_packet_on i p)) × (after ≡ before)
IsBody (EnhancedPacket number_len) most order before body packet after =
    (i : CaptureInterfaceValue) × (p : EnhancedPacketValue) × (options : List OptionValue)
    × IsEnhancedPacket number_len order body p × IsAt before p.interface i × HasOptions order p.options options
    × (packet ≡ Some (packet_on order i p options)) × (after ≡ before)
IsBody Other most order before body packet after = (packet ≡ None) × (after ≡ before)

-- Why a unit is refused: a row of its format; a packet whose interface, named by its number, is not described before
-- it; an interface more than the maximum.
pub data CaptureRefusal : Type 0 where
  File : FileRefusal → CaptureRefusal
  Record : RecordRefusal → CaptureRefusal
  Section : SectionRefusal → CaptureRefusal
  Block : BlockRefusal → CaptureRefusal
  Body : BodyRefusal → CaptureRefusal
  NoInterface : ℕ → CaptureRefusal
  TooManyInterfaces : CaptureRefusal

abbrev pub HasNoInterface : List CaptureInterfaceValue → ℕ → Type 0
HasNoInterface interfaces n = length interfaces ≤ n

pub data RefusesBody (most : ℕ) (order : Order) (before : List CaptureInterfaceValue) (body : List ℕ) : BlockKind
    → CaptureRefusal → Type 0 where
  interface : (r : BodyRefusal) → RefusesInterface body r → RefusesBody most order before body InterfaceDescription
      (Body r)
  too_many : (i : CaptureInterfaceValue) → Describes order body i → most ≤ length before
      → RefusesBody most order before body InterfaceDescription TooManyInterfaces
  simple_alone : HasNoInterface before 0 → RefusesBody most order before body SimplePacket (NoInterface 0)
  simple : (i : CaptureInterfaceValue) (r : BodyRefusal) → IsAt before 0 i → RefusesSimplePacket order i.snap_len body r
      → RefusesBody most order before body SimplePacket (Body r)
  enhanced : (n : ℕ) (r : BodyRefusal) → RefusesEnhancedPacket order body r
      → RefusesBody most order before body (EnhancedPacket n) (Body r)
  enhanced_alone : (n : ℕ) (p : EnhancedPacketValue) → IsEnhancedPacket n order body p
      → HasNoInterface before p.interface
      → RefusesBody most order before body (EnhancedPacket n) (NoInterface p.interface)

-- Bytes begin with a unit of len bytes: it has this packet, or none, and the second expectation holds after it.
pub data Begins (bytes : List ℕ) : CaptureExpectation → (len : ℕ) → Option PacketValue → CaptureExpectation
    → Type 0 where
  file_header : (most : ℕ) (h : FileHeaderValue) → ¬ (HasSectionType bytes) → IsFileHeader bytes h
      → Begins bytes (Beginning most) 24 None (Records h)
  file_record : (h : FileHeaderValue) (r : RecordValue) → BeginsRecord h.order bytes r
      → Begins bytes (Records h) (record_len r) (Some (packet_of_record h r)) (Records h)
  first_section : (most : ℕ) (order : Order) (b : BlockValue) → IsSection bytes order b
      → Begins bytes (Beginning most) (12 + length b.body) None (Blocks most order [])
  section : (most : ℕ) (order next : Order) (interfaces : List CaptureInterfaceValue) (b : BlockValue)
      → IsSection bytes next b
      → Begins bytes (Blocks most order interfaces) (12 + length b.body) None (Blocks most next [])
  block : (most : ℕ) (order : Order) (interfaces after : List CaptureInterfaceValue) (packet : Option PacketValue)
      (b : BlockValue) → ¬ (HasSectionType bytes) → BeginsBlock order bytes b
      → IsBody (kind_of_block b.block_type) most order interfaces b.body packet after
      → Begins bytes (Blocks most order interfaces) (12 + length b.body) packet (Blocks most order after)

-- Bytes do not begin with a unit that is expected.
pub data RefusesCapture (bytes : List ℕ) : CaptureExpectation → CaptureRefusal → Type 0 where
  file_header_refused : (most : ℕ) (r : FileRefusal) → ¬ (HasSectionType bytes) → RefusesFile bytes r
      → RefusesCapture bytes (Beginning most) (File r)
  file_record_refused : (h : FileHeaderValue) (r : RecordRefusal) → RefusesRecord h.order bytes r
      → RefusesCapture bytes (Records h) (Record r)
  first_section_refused : (most : ℕ) (r : SectionRefusal) → HasSectionType bytes → RefusesSection bytes r
      → RefusesCapture bytes (Beginning most) (Section r)
  section_refused : (most : ℕ) (order : Order) (interfaces : List CaptureInterfaceValue) (r : SectionRefusal)
      → HasSectionType bytes → RefusesSection bytes r → RefusesCapture bytes (Blocks most order interfaces) (Section r)
  block_refused : (most : ℕ) (order : Order) (interfaces : List CaptureInterfaceValue) (r : BlockRefusal)
      → ¬ (HasSectionType bytes) → RefusesBlock order bytes r → RefusesCapture bytes (Blocks most order interfaces)
      (Block r)
  body_refused : (most : ℕ) (order : Order) (interfaces : List CaptureInterfaceValue) (b : BlockValue)
      (r : CaptureRefusal) → ¬ (HasSectionType bytes) → BeginsBlock order bytes b
      → RefusesBody most order interfaces b.body (kind_of_block b.block_type) r
      → RefusesCapture bytes (Blocks most order interfaces) r

-- the number of bytes that a unit needs, if it was refused because the bytes end within it
abbrev pub required_len : CaptureRefusal → Option ℕ
required_len (File (file.Short required len)) = Some required
required_len (Record (record_rows.Short required len)) = Some required
required_len (Section (section_rows.Short required len)) = Some required
required_len (Section (section_rows.Block (block_rows.Short required len))) = Some required
required_len (Block (block_rows.Short required len)) = Some required
required_len _ = None

-- ---- a whole file

-- a file has begun
abbrev pub HasBegun : CaptureExpectation → Type 0
HasBegun (Beginning most) = ⊥
HasBegun _ = ⊤

-- .. and nothing is left of it
abbrev pub IsEnd : CaptureExpectation → List ℕ → Type 0
IsEnd x bytes = HasBegun x × (bytes ≡ [])

-- The packets of the bytes from a place where this is expected. The rest after them is empty, or refused.
pub data HasPackets : CaptureExpectation → List ℕ → List PacketValue → (rest : List ℕ) → Option CaptureRefusal
    → Type 0 where
  ended : (x : CaptureExpectation) (bytes : List ℕ) → IsEnd x bytes → HasPackets x bytes [] [] None
  refused : (x : CaptureExpectation) (bytes : List ℕ) (r : CaptureRefusal) → ¬ (IsEnd x bytes)
      → RefusesCapture bytes x r → HasPackets x bytes [] bytes (Some r)
  unit : (x y : CaptureExpectation) (bytes : List ℕ) (len : ℕ) (packets : List PacketValue) (rest : List ℕ)
      (fault : Option CaptureRefusal) → Begins bytes x len None y
      → HasPackets y (drop len bytes) packets rest fault → HasPackets x bytes packets rest fault
  packet : (x y : CaptureExpectation) (bytes : List ℕ) (len : ℕ) (p : PacketValue) (packets : List PacketValue)
      (rest : List ℕ) (fault : Option CaptureRefusal) → Begins bytes x len (Some p) y
      → HasPackets y (drop len bytes) packets rest fault → HasPackets x bytes (p ∷ packets) rest fault
