-- Capture files that are read unit by unit, for calls from C.
use Rattle.std.specs.Prelude.{◌≡◌, ◌≤◌, ◌⊎◌, ℕ, ◌+◌, List, length, map, take, slice_set, Option, Some, None, unwrap_or, is_some, Result, IfOk, IfErr, IfSome, IfNone, nat_eq, nat_le, if◌then◌else◌}
use Rattle.std.specs.Option.{option_map}
use Rattle.ether_pcap.specs.Capture.{PacketValue, CaptureExpectation, CaptureRefusal, TooManyInterfaces, Begins, RefusesCapture, required_len}
use Rattle.ether_pcap.specs.CaptureViews.{capture_refusal_view, expectation_of}
use Rattle.ether_pcap.specs.CaptureTexts.{capture_error_text}
use Rattle.ether_pcap.specs.ReadUnits.{HasRoom, interfaces_after, packet_in, state_after}
use Rattle.ether_pcap.specs.declared.byte_order.ByteOrder.{ByteOrder}
use Rattle.ether_pcap.specs.declared.byte_order.ByteOrder.TheVariants.{BigEndian, LittleEndian}
use Rattle.ether_pcap.specs.declared.classic.timestamp_resolution.TimestampResolution.{TimestampResolution}
use Rattle.ether_pcap.specs.declared.classic.timestamp_resolution.TimestampResolution.TheVariants.{Microseconds, Nanoseconds}
use Rattle.ether_pcap.specs.declared.classic.file_header.FileHeader.{FileHeader}
use Rattle.ether_pcap.specs.declared.capture.capture_interface.CaptureInterface.{CaptureInterface}
use Rattle.ether_pcap.specs.declared.capture.capture_error.CaptureError.{CaptureError}
use Rattle.ether_pcap.specs.declared.capture.read_unit.ReadUnit.{ReadUnit}
use Rattle.ether_pcap.specs.declared.capture.read_unit.UnitContent.{UnitContent}
use Rattle.ether_pcap.specs.declared.capture.read_unit.UnitContent.TheVariants as contents
use Rattle.ether_pcap.specs.declared.capture.reader_state.ReaderState.{ReaderState}
use Rattle.ether_pcap.specs.declared.capture.reader_state.ReaderState.TheVariants as states
use Rattle.ether_c.specs.declared.ether_captured.EtherCaptured.{EtherCaptured}
use Rattle.ether_c.specs.declared.ether_interface.EtherInterface.{EtherInterface}
use Rattle.ether_c.specs.declared.ether_read_unit.EtherReadUnit.{EtherReadUnit}
use Rattle.ether_c.specs.declared.ether_reader.EtherReader.{EtherReader}
use Rattle.ether_c.specs.Numbers.{done, no_room, no_text}
use Rattle.ether_c.specs.Calls.{PutsBytes}
use Rattle.ether_c.specs.Captured.{HoldsPacket, capture_status}
use Rattle.ether_c.specs.Selection.{marked}

-- ---- interfaces

-- 1 if there is a value
abbrev pub mark_of : {T : Type 0} → Option T → ℕ
mark_of o = if is_some o then 1 else 0

-- an interface that was read
abbrev pub c_interface : CaptureInterface → EtherInterface
c_interface i = record {
  time_offset = i.time_offset;
  snap_len = i.snap_len;
  link_type = i.link_type.0;
  has_fcs_len = mark_of i.fcs_len;
  fcs_len = unwrap_or i.fcs_len 0;
  has_time_resolution = mark_of i.time_resolution;
  time_resolution = unwrap_or i.time_resolution 0;
}

-- the interface that was passed
abbrev pub interface_of : EtherInterface → CaptureInterface
interface_of i = record {
  link_type = record { 0 = i.link_type };
  snap_len = i.snap_len;
  fcs_len = marked i.has_fcs_len i.fcs_len;
  time_resolution = marked i.has_time_resolution i.time_resolution;
  time_offset = i.time_offset;
}

-- ---- readers

-- a mark of 0 says that the most significant byte comes first
abbrev pub order_marked : (mark : ℕ) → ByteOrder
order_marked mark = if nat_eq mark 0 then BigEndian else LittleEndian

-- .. that times are in microseconds
abbrev pub resolution_marked : (mark : ℕ) → TimestampResolution
resolution_marked mark = if nat_eq mark 0 then Microseconds else Nanoseconds

-- the header of a classic file that was passed
abbrev pub header_of : EtherReader → FileHeader
header_of r = record {
  byte_order = order_marked r.is_little_endian;
  resolution = resolution_marked r.has_nanoseconds;
  snap_len = r.snap_len;
  link_type = record { 0 = r.link_type };
  fcs_len = marked r.has_fcs_len r.fcs_len;
}

-- how far the file was read, if its number is one of enum etherpeel_reader_state
abbrev pub state_of : EtherReader → Option ReaderState
state_of r =
    if nat_eq r.state 0 then Some states.Nothing
    else (if nat_eq r.state 1 then Some (states.Classic (header_of r))
    else (if nat_eq r.state 2 then Some (states.Section (order_marked r.is_little_endian)) else None))

-- the interfaces at the front of the table
abbrev pub interfaces_of : EtherReader → (table : List EtherInterface) → List CaptureInterface
interfaces_of r table = map interface_of (take r.interface_count table)

-- What may follow in the file, if the state has a number and the table has room for the interfaces. A section may
-- describe as many as the table has room for.
abbrev pub expected_by : EtherReader → (table : List EtherInterface) → Option CaptureExpectation
expected_by r table =
    if nat_le r.interface_count (length table)
    then option_map (λ state. expectation_of (length table) state (interfaces_of r table)) (state_of r) else None

-- the marks
abbrev pub order_mark : ByteOrder → ℕ
order_mark BigEndian = 0
order_mark LittleEndian = 1

abbrev pub resolution_mark : TimestampResolution → ℕ
resolution_mark Microseconds = 0
resolution_mark Nanoseconds = 1

-- the numbers of a reader after a unit
abbrev pub c_reader : EtherReader → UnitContent → EtherReader
c_reader r (contents.FileHeader h) = record {
  interface_count = r.interface_count;
  snap_len = h.snap_len;
  link_type = h.link_type.0;
  state = 1;
  is_little_endian = order_mark h.byte_order;
  has_nanoseconds = resolution_mark h.resolution;
  has_fcs_len = mark_of h.fcs_len;
  fcs_len = unwrap_or h.fcs_len 0;
}
c_reader r (contents.Section order) =
    record r { interface_count = 0; state = 2; is_little_endian = order_mark order }
c_reader r (contents.Interface i) = record r { interface_count = r.interface_count + 1 }
c_reader r _ = r

-- .. and its table: an interface is written after those before it
abbrev pub c_table : EtherReader → (table : List EtherInterface) → UnitContent → List EtherInterface
c_table r table (contents.Interface i) = slice_set table r.interface_count (c_interface i)
c_table r table _ = table

-- ---- units

-- the number of a packet's interface
abbrev pub interface_in : Option PacketValue → Option ℕ
interface_in None = None
interface_in (Some p) = p.interface

-- a unit that was read
abbrev pub c_read_unit : (len : ℕ) → Option PacketValue → EtherReadUnit
c_read_unit len packet = record {
  len = len;
  needed = 0;
  interface = unwrap_or (interface_in packet) 0;
  has_packet = mark_of packet;
  has_interface = mark_of (interface_in packet);
}

-- a unit that was not read, which needs so many bytes if that is known
abbrev pub c_refused_unit : (required : Option ℕ) → EtherReadUnit
c_refused_unit required =
    record { len = 0; needed = unwrap_or required 0; interface = 0; has_packet = 0; has_interface = 0 }

-- ---- calls

-- What is read of the bytes, where the reader and its table know what may follow.
pub record Reads (bytes : List ℕ) (r : EtherReader) (table : List EtherInterface)
    (read : Result ReadUnit CaptureError) : Type 0 where
  pub state : ReaderState
  pub numbered : state_of r ≡ Some state
  pub within : r.interface_count ≤ length table
  pub unit : IfOk read (λ u. Begins bytes (expectation_of (length table) state (interfaces_of r table)) u.len
      (packet_in u.content)
      (expectation_of (length table) (state_after state u.content)
      (interfaces_after (interfaces_of r table) u.content)))
  pub room : IfOk read (λ u. HasRoom (length table) (interfaces_of r table) u.content)
  pub refused : IfErr read (λ e. RefusesCapture bytes (expectation_of (length table) state (interfaces_of r table))
      (capture_refusal_view e))

-- The reader and its table know what may follow a unit.
pub record Keeps (content : UnitContent) (old new : EtherReader) (old_table table : List EtherInterface) : Type 0 where
  pub reader_is : new ≡ c_reader old content
  pub table_is : table ≡ c_table old old_table content
  pub same_room : length table ≡ length old_table
  pub within : new.interface_count ≤ length table
  pub state : (s : ReaderState) → state_of old ≡ Some s → state_of new ≡ Some (state_after s content)
  pub interfaces : interfaces_of new table ≡ interfaces_after (interfaces_of old old_table) content

-- The packet is written; if there is none, nothing is.
abbrev pub PutsPacket : Option PacketValue → (old new : EtherCaptured) → Type 0
PutsPacket None old new = new ≡ old
PutsPacket (Some p) old new = HoldsPacket new p

-- Bytes begin with a unit, and the reader and its table know what may follow it.
pub record ReadsOne (bytes : List ℕ) (x : CaptureExpectation) (old new : EtherReader)
    (old_table table : List EtherInterface) (packet_old packet_new : EtherCaptured) (unit : EtherReadUnit)
    (status : ℕ) : Type 0 where
  pub content : UnitContent
  pub next : CaptureExpectation
  pub begins : Begins bytes x unit.len (packet_in content) next
  pub expected : expected_by new table ≡ Some next
  pub reader_is : new ≡ c_reader old content
  pub table_is : table ≡ c_table old old_table content
  pub puts : PutsPacket (packet_in content) packet_old packet_new
  pub given : unit ≡ c_read_unit unit.len (packet_in content)
  pub status_is : status ≡ done

-- the status for a refusal: an array that has no room for an interface is the caller's
abbrev pub refusal_status : CaptureRefusal → ℕ
refusal_status TooManyInterfaces = no_room
refusal_status refusal = capture_status (required_len refusal)

-- Bytes do not begin with a unit that is expected. Nothing is written but the number of bytes that it needs.
pub record RefusesOne (bytes : List ℕ) (x : CaptureExpectation) (old new : EtherReader)
    (old_table table : List EtherInterface) (packet_old packet_new : EtherCaptured) (unit : EtherReadUnit)
    (status : ℕ) : Type 0 where
  pub refusal : CaptureRefusal
  pub refused : RefusesCapture bytes x refusal
  pub same_reader : new ≡ old
  pub same_table : table ≡ old_table
  pub same_packet : packet_new ≡ packet_old
  pub given : unit ≡ c_refused_unit (required_len refusal)
  pub status_is : status ≡ refusal_status refusal

abbrev pub GivesUnit : (bytes : List ℕ) → CaptureExpectation → (old new : EtherReader)
    → (old_table table : List EtherInterface) → (packet_old packet_new : EtherCaptured) → EtherReadUnit → (status : ℕ)
    → Type 0
GivesUnit bytes x old new old_table table packet_old packet_new unit status =
    ReadsOne bytes x old new old_table table packet_old packet_new unit status
    ⊎ RefusesOne bytes x old new old_table table packet_old packet_new unit status

-- ---- texts

-- The text of an error is written to the target; or no text can be made, which no contract rules out.
abbrev pub PutsErrorText : CaptureError → (old new : List ℕ) → (status len : ℕ) → Type 0
PutsErrorText e old new status len =
    PutsBytes (capture_error_text e) old new status len
    ⊎ ((status ≡ no_text) × (len ≡ 0) × (new ≡ old))

-- no text if bytes begin with a unit that is expected
pub record GivesUnitText (bytes : List ℕ) (x : CaptureExpectation) (old new : List ℕ) (status len : ℕ) : Type 0 where
  pub error : Option CaptureError
  pub none : IfNone error ((unit_len : ℕ) × (packet : Option PacketValue) × (next : CaptureExpectation)
      × Begins bytes x unit_len packet next × (status ≡ done) × (len ≡ 0) × (new ≡ old))
  pub some : IfSome error (λ e. RefusesCapture bytes x (capture_refusal_view e) × PutsErrorText e old new status len)
