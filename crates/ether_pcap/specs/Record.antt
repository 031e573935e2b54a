-- The records of a classic capture file, from the file header to the end (pcap-savefile(5); draft-ietf-opsawg-pcap,
-- section 5).
use Rattle.std.specs.Prelude.{◌≡◌, ◌≢◌, ℕ, ◌+◌, ◌*◌, ◌^◌, ◌<◌, ◌≤◌, List, [], ◌∷◌, length, drop, slice_range, Option, Some, None}
use Rattle.ether_pcap.specs.Numbers.{Order, field}
use Rattle.ether_pcap.specs.FileHeader.{Resolution, Microseconds, Nanoseconds}

-- the maximum captured length: libpcap's maximum snap length for Ethernet and cooked captures
abbrev pub max_captured_len : ℕ
max_captured_len = 262144

-- The time in whole seconds since 1970, and a fraction in units of the file's resolution; the length of the packet
-- before it was cut; the captured bytes.
pub record RecordValue : Type 0 where
  pub seconds : ℕ
  pub fraction : ℕ
  pub original_len : ℕ
  pub packet : List ℕ

-- seconds, fraction, number of captured bytes, original length, 4 bytes each; the captured bytes
pub record BeginsRecord (order : Order) (bytes : List ℕ) (r : RecordValue) : Type 0 where
  pub seconds : field order bytes 0 4 ≡ r.seconds
  pub fraction : field order bytes 4 8 ≡ r.fraction
  pub captured_len : field order bytes 8 12 ≡ length r.packet
  pub original_len : field order bytes 12 16 ≡ r.original_len
  pub packet : slice_range bytes 16 (16 + length r.packet) ≡ r.packet
  pub whole : 16 + length r.packet ≤ length bytes
  pub room : length r.packet ≤ max_captured_len

-- too few bytes, for the header or for the captured bytes; a captured length above the maximum
pub data RecordRefusal : Type 0 where
  Short : (required len : ℕ) → RecordRefusal
  TooLong : ℕ → RecordRefusal

pub data RefusesRecord (order : Order) (bytes : List ℕ) : RecordRefusal → Type 0 where
  header : length bytes < 16 → RefusesRecord order bytes (Short 16 (length bytes))
  too_long : 16 ≤ length bytes → max_captured_len < field order bytes 8 12
      → RefusesRecord order bytes (TooLong (field order bytes 8 12))
  packet : 16 ≤ length bytes → field order bytes 8 12 ≤ max_captured_len → length bytes < 16 + field order bytes 8 12
      → RefusesRecord order bytes (Short (16 + field order bytes 8 12) (length bytes))

-- the nanoseconds since the beginning of 1970, UTC, of seconds and a fraction
abbrev pub nanoseconds_of : Resolution → (seconds fraction : ℕ) → ℕ
nanoseconds_of Microseconds seconds fraction = seconds * 10 ^ 9 + fraction * 10 ^ 3
nanoseconds_of Nanoseconds seconds fraction = seconds * 10 ^ 9 + fraction

-- ---- all of them

-- the bytes of a record
abbrev pub record_len : RecordValue → ℕ
record_len r = 16 + length r.packet

-- The records of the bytes after a file header, one after the other. The rest after them is empty, or refused as a
-- record.
abbrev pub HasRecords : Order → List ℕ → List RecordValue → List ℕ → Option RecordRefusal → Type 0
HasRecords order bytes [] rest None = (bytes ≡ []) × (rest ≡ [])
HasRecords order bytes [] rest (Some refusal) = (bytes ≢ []) × (rest ≡ bytes) × RefusesRecord order bytes refusal
HasRecords order bytes (r ∷ records) rest fault =
    BeginsRecord order bytes r × HasRecords order (drop (record_len r) bytes) records rest fault
