-- What is written for a classic capture file: all that is read of it, and 0 for the rest (draft-ietf-opsawg-pcap,
-- sections 4 and 5).
use Rattle.std.specs.Prelude.{◌≡◌, ℕ, zero, suc, ◌+◌, ◌*◌, ◌/◌, ◌%◌, ◌^◌, ◌<◌, ◌≤◌, List, [], ◌∷◌, ◌++◌, length, reverse, slice_range, map, Option, Some, None, ⊤}
use Rattle.ether_base.specs.Bytes.{IsBytes, spelled}
use Rattle.ether_pcap.specs.Numbers.{Order, BigEndian, LittleEndian, field}
use Rattle.ether_pcap.specs.FileHeader.{FileHeaderValue, HasMagic}
use Rattle.ether_pcap.specs.Record.{RecordValue, max_captured_len}
use Rattle.ether_pcap.specs.Capture.{packet_of_record, Beginning, HasPackets}

-- the k bytes of a number that fits in them
abbrev pub bytes_of : Order → (k n : ℕ) → List ℕ
bytes_of BigEndian k n = spelled k n
bytes_of LittleEndian k n = reverse (spelled k n)

abbrev pub zeros : ℕ → List ℕ
zeros zero = []
zeros (suc n) = 0 ∷ zeros n

-- what the header can give as the length of the frame check sequence: none, or a number of pairs of bytes that fits in
-- four bits
abbrev pub HasFcsLen : Option ℕ → Type 0
HasFcsLen None = ⊤
HasFcsLen (Some len) = (len % 2 ≡ 0) × (len ≤ 30)

-- the last number of the header: the link type; and, if there is a length, bit 26 (P) and the number of byte pairs
-- from bit 28 on
abbrev pub link_word_of : ℕ → Option ℕ → ℕ
link_word_of link_type None = link_type
link_word_of link_type (Some len) = len / 2 % 16 * 2 ^ 28 + 2 ^ 26 + link_type

-- magic number 4 bytes, version 2.4 in 2 bytes each, 8 bytes of 0, snap length 4 bytes, the last number 4 bytes
pub record WritesFileHeader (bytes : List ℕ) (h : FileHeaderValue) : Type 0 where
  pub magic : HasMagic bytes h.order h.resolution
  pub major : field h.order bytes 4 6 ≡ 2
  pub minor : field h.order bytes 6 8 ≡ 4
  pub not_read : slice_range bytes 8 16 ≡ zeros 8
  pub snap_len : field h.order bytes 16 20 ≡ h.snap_len
  pub link : field h.order bytes 20 24 ≡ link_word_of h.link_type h.fcs_len

-- seconds, fraction, number of captured bytes, original length, 4 bytes each
pub record WritesRecordHeader (order : Order) (bytes : List ℕ) (r : RecordValue) : Type 0 where
  pub seconds : field order bytes 0 4 ≡ r.seconds
  pub fraction : field order bytes 4 8 ≡ r.fraction
  pub captured_len : field order bytes 8 12 ≡ length r.packet % 2 ^ 32
  pub original_len : field order bytes 12 16 ≡ r.original_len

-- records one after the other, each as the bytes of its header and its packet
pub data WritesRecords (order : Order) : List ℕ → List RecordValue → Type 0 where
  none : WritesRecords order [] []
  more : (header bytes : List ℕ) (r : RecordValue) (records : List RecordValue) → length header ≡ 16
      → WritesRecordHeader order header r
      → length r.packet ≤ max_captured_len → WritesRecords order bytes records
      → WritesRecords order (header ++ r.packet ++ bytes) (r ∷ records)

-- A file that is written as a header and records has exactly the packets of these records, and nothing is left over.
abbrev pub WrittenFilesAreRead : Type 0
WrittenFilesAreRead =
    (most : ℕ) (header bytes : List ℕ) (h : FileHeaderValue) (records : List RecordValue) → IsBytes header
    → length header ≡ 24 → h.link_type < 2 ^ 16
    → HasFcsLen h.fcs_len → WritesFileHeader header h → WritesRecords h.order bytes records
    → HasPackets (Beginning most) (header ++ bytes) (map (packet_of_record h) records) [] None
