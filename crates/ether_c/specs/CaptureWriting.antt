-- Classic capture files written by calls from C: little-endian, with times in nanoseconds.
use Rattle.std.specs.Prelude.{◌≡◌, ℕ, ◌^◌, ◌<◌, ◌≤◌, List, ◌++◌, length, nat_eq, if◌then◌else◌}
use Rattle.ether_pcap.specs.Numbers.{LittleEndian}
use Rattle.ether_pcap.specs.FileHeader.{FileHeaderValue, IsFileHeader, Nanoseconds}
use Rattle.ether_pcap.specs.Record.{BeginsRecord, RecordValue, max_captured_len}
use Rattle.ether_pcap.specs.Writing.{HasFcsLen, WritesFileHeader, WritesRecordHeader}
use Rattle.ether_c.specs.declared.ether_captured.EtherCaptured.{EtherCaptured}
use Rattle.ether_c.specs.Numbers.{done}
use Rattle.ether_c.specs.Selection.{marked}
use Rattle.ether_c.specs.Tags.{bad_field}

-- ---- the header of a file

-- without a length of the frame check sequence if that is 0
abbrev pub file_value : (link_type snap_len fcs_len : ℕ) → FileHeaderValue
file_value link_type snap_len fcs_len = record {
  order = LittleEndian;
  resolution = Nanoseconds;
  snap_len = snap_len;
  link_type = link_type;
  fcs_len = marked fcs_len fcs_len;
}

-- the bytes are those of the header, and are read back; or the length does not fit, and they are unchanged
pub data GivesFileHeader (file : FileHeaderValue) (old new : List ℕ) (status : ℕ) : Type 0 where
  given : HasFcsLen file.fcs_len → WritesFileHeader new file → ((rest : List ℕ) → IsFileHeader (new ++ rest) file)
      → status ≡ done → GivesFileHeader file old new status
  unfit : (HasFcsLen file.fcs_len → ⊥) → new ≡ old → status ≡ bad_field → GivesFileHeader file old new status

-- ---- the header of a record

-- a packet without a time has the time 0
abbrev pub record_seconds : EtherCaptured → ℕ
record_seconds c = if nat_eq c.has_time 0 then 0 else c.seconds

abbrev pub record_nanoseconds : EtherCaptured → ℕ
record_nanoseconds c = if nat_eq c.has_time 0 then 0 else c.nanoseconds

abbrev pub record_value : EtherCaptured → RecordValue
record_value c = record {
  seconds = record_seconds c;
  fraction = record_nanoseconds c;
  original_len = c.original_len;
  packet = c.packet.now;
}

-- a record can have this time and these bytes
pub record FitsRecord (r : RecordValue) : Type 0 where
  pub seconds : r.seconds < 2 ^ 32
  pub fraction : r.fraction < 10 ^ 9
  pub packet : length r.packet ≤ max_captured_len

-- the bytes are those of the header, and are read back with the packet after them; or it does not fit
pub data GivesRecordHeader (r : RecordValue) (old new : List ℕ) (status : ℕ) : Type 0 where
  given : FitsRecord r → WritesRecordHeader LittleEndian new r
      → ((rest : List ℕ) → BeginsRecord LittleEndian (new ++ r.packet ++ rest) r) → status ≡ done
      → GivesRecordHeader r old new status
  unfit : (FitsRecord r → ⊥) → new ≡ old → status ≡ bad_field → GivesRecordHeader r old new status
