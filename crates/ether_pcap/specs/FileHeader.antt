-- The header of a classic capture file of libpcap (pcap-savefile(5); draft-ietf-opsawg-pcap, section 4).
use Rattle.std.specs.Prelude.{◌≡◌, ℕ, ◌*◌, ◌/◌, ◌%◌, ◌^◌, ◌<◌, ◌≤◌, List, length, slice_range, nat_eq, Option, Some, None, if◌then◌else◌}
use Rattle.ether_base.specs.Bytes.{number}
use Rattle.ether_pcap.specs.Numbers.{Order, field}

-- the unit of the second number of a time
pub data Resolution : Type 0 where
  Microseconds : Resolution
  Nanoseconds : Resolution

-- the magic number
abbrev pub magic_of : Resolution → ℕ
magic_of Microseconds = 0xA1B2C3D4
magic_of Nanoseconds = 0xA1B23C4D

-- The length in bytes of the frame check sequence at the end of each packet, from the last number of the header. Bit
-- 26 (P; the least significant bit is bit 0) says that the length is given, and bits 28 to 31 count pairs of bytes.
abbrev pub fcs_len_of : ℕ → Option ℕ
fcs_len_of word = if nat_eq (word / 2 ^ 26 % 2) 1 then Some (2 * (word / 2 ^ 28)) else None

pub record FileHeaderValue : Type 0 where
  pub order : Order
  pub resolution : Resolution
  pub snap_len : ℕ
  pub link_type : ℕ
  pub fcs_len : Option ℕ

-- the first four bytes are, in this order, the magic number of this resolution
abbrev pub HasMagic : List ℕ → Order → Resolution → Type 0
HasMagic bytes order resolution = field order bytes 0 4 ≡ magic_of resolution

-- magic number 4 bytes, version 2.4 in 2 bytes each, 8 bytes that are not read, snap length 4 bytes, and 4 bytes whose
-- lower half is the link type
pub record IsFileHeader (bytes : List ℕ) (h : FileHeaderValue) : Type 0 where
  pub len : 24 ≤ length bytes
  pub magic : HasMagic bytes h.order h.resolution
  pub major : field h.order bytes 4 6 ≡ 2
  pub minor : field h.order bytes 6 8 ≡ 4
  pub snap_len : field h.order bytes 16 20 ≡ h.snap_len
  pub link_type : field h.order bytes 20 24 % 2 ^ 16 ≡ h.link_type
  pub fcs_len : fcs_len_of (field h.order bytes 20 24) ≡ h.fcs_len

-- too few bytes: the required and the available number; another magic number, as a big-endian number; another version
pub data FileRefusal : Type 0 where
  Short : (required len : ℕ) → FileRefusal
  Magic : ℕ → FileRefusal
  Version : (major minor : ℕ) → FileRefusal

pub data RefusesFile (bytes : List ℕ) : FileRefusal → Type 0 where
  short : length bytes < 24 → RefusesFile bytes (Short 24 (length bytes))
  magic : 24 ≤ length bytes → ((order : Order) (resolution : Resolution) → HasMagic bytes order resolution → ⊥)
      → RefusesFile bytes (Magic (number (slice_range bytes 0 4)))
  version : (order : Order) (resolution : Resolution) → 24 ≤ length bytes → HasMagic bytes order resolution
      → ((field order bytes 4 6 ≡ 2) × (field order bytes 6 8 ≡ 4) → ⊥)
      → RefusesFile bytes (Version (field order bytes 4 6) (field order bytes 6 8))
