-- The capture of frames.
use Rattle.std.specs.Prelude.{◌≡◌, ℕ, List, [], ◌∷◌, ◌++◌, length, map, take, nat_eq, ◌&&◌, Bool, if◌then◌else◌, Option, Some, None}
use Rattle.std.specs.Io.KnownBytes.{Appends}
use Rattle.ether_pcap.specs.Numbers.{LittleEndian}
use Rattle.ether_pcap.specs.FileHeader.{FileHeaderValue, Nanoseconds}
use Rattle.ether_pcap.specs.Record.{RecordValue}
use Rattle.ether_pcap.specs.Writing.{WritesFileHeader, WritesRecordHeader, WritesRecords}
use Rattle.ether_make.specs.Frames.{FrameValue}

-- the snap length, 256 KiB: what a packet has after it is not captured
abbrev pub captured : List ℕ → List ℕ
captured packet = take 262144 packet

-- the length of the check sequence, which only frames of Ethernet have
abbrev pub fcs_len : (fcs : Bool) → (link : ℕ) → Option ℕ
fcs_len fcs link = if fcs && nat_eq link 1 then Some 4 else None

-- times in nanoseconds
abbrev pub header_of_capture : (fcs : Bool) → (link : ℕ) → FileHeaderValue
header_of_capture fcs link = record {
  order = LittleEndian;
  resolution = Nanoseconds;
  snap_len = 262144;
  link_type = link;
  fcs_len = fcs_len fcs link;
}

abbrev pub record_of : FrameValue → RecordValue
record_of frame = record {
  seconds = frame.time.seconds;
  fraction = frame.time.nanoseconds;
  original_len = length frame.packet;
  packet = captured frame.packet;
}

pub record IsHeaderOf (fcs : Bool) (link : ℕ) (bytes : List ℕ) : Type 0 where
  pub len : length bytes ≡ 24
  pub writes : WritesFileHeader bytes (header_of_capture fcs link)

-- the header of the record of a frame, and what is captured of it
pub record IsRecordOf (frame : FrameValue) (bytes : List ℕ) : Type 0 where
  pub header : List ℕ
  pub header_len : length header ≡ 16
  pub writes : WritesRecordHeader LittleEndian header (record_of frame)
  pub whole : bytes ≡ header ++ captured frame.packet

-- bytes are a file header with this link type, and a record for each of these frames, in their order
pub record IsCaptureOf (fcs : Bool) (link : ℕ) (frames : List FrameValue) (bytes : List ℕ) : Type 0 where
  pub header : List ℕ
  pub records : List ℕ
  pub is_header : IsHeaderOf fcs link header
  pub writes_records : WritesRecords LittleEndian records (map record_of frames)
  pub whole : bytes ≡ header ++ records

-- the capture of frames that all have the link type of the first one; without frames it is one of Ethernet
abbrev pub IsTheCapture : (fcs : Bool) → (frames : List FrameValue) → (bytes : List ℕ) → Type 0
IsTheCapture fcs [] bytes = IsCaptureOf fcs 1 [] bytes
IsTheCapture fcs (f ∷ fs) bytes = IsCaptureOf fcs f.link (f ∷ fs) bytes

-- what is written before the end: nothing before the first frame, since the file header has its link type
pub data IsBegun (fcs : Bool) : (link : Option ℕ) → (frames : List FrameValue) → (bytes : List ℕ) → Type 0 where
  nothing : IsBegun fcs None [] []
  some : (f : FrameValue) (fs : List FrameValue) (bytes : List ℕ) → IsCaptureOf fcs f.link (f ∷ fs) bytes
      → IsBegun fcs (Some f.link) (f ∷ fs) bytes

-- a writer takes bytes that are such a part of a capture
pub record WritesPart (IsPart : List ℕ → Type 0) (held holds : Option (List ℕ)) : Type 0 where
  pub part : List ℕ
  pub is_part : IsPart part
  pub written : Appends held holds part

-- a writer takes more frames, after those for which `IsBegun` holds
pub record Grows (IsBegun : Option ℕ → List FrameValue → List ℕ → Type 0) (link after : Option ℕ)
    (frames : List FrameValue) (held holds : Option (List ℕ)) : Type 0 where
  pub more : List ℕ
  pub written : Appends held holds more
  pub begun : (done : List FrameValue) (bytes : List ℕ) → IsBegun link done bytes
      → IsBegun after (done ++ frames) (bytes ++ more)

-- a writer takes what is missing at the end
pub record Ends (IsBegun : Option ℕ → List FrameValue → List ℕ → Type 0) (IsWhole : List FrameValue → List ℕ → Type 0)
    (link : Option ℕ) (held holds : Option (List ℕ)) : Type 0 where
  pub more : List ℕ
  pub written : Appends held holds more
  pub whole : (frames : List FrameValue) (bytes : List ℕ) → IsBegun link frames bytes → IsWhole frames (bytes ++ more)
