-- The structs and enums of this crate as values of the format.
use Rattle.ether_pcap.specs.Numbers.{Order, BigEndian, LittleEndian}
use Rattle.ether_pcap.specs.FileHeader.{Resolution, FileHeaderValue, FileRefusal}
use Rattle.ether_pcap.specs.FileHeader as file
use Rattle.ether_pcap.specs.Record.{RecordValue, RecordRefusal}
use Rattle.ether_pcap.specs.Record as record_rows
use Rattle.ether_pcap.specs.declared.byte_order.ByteOrder.{ByteOrder}
use Rattle.ether_pcap.specs.declared.byte_order.ByteOrder.TheVariants as orders
use Rattle.ether_pcap.specs.declared.classic.timestamp_resolution.TimestampResolution.{TimestampResolution}
use Rattle.ether_pcap.specs.declared.classic.timestamp_resolution.TimestampResolution.TheVariants as resolutions
use Rattle.ether_pcap.specs.declared.classic.file_header.FileHeader.{FileHeader}
use Rattle.ether_pcap.specs.declared.classic.file_header_error.FileHeaderError.{FileHeaderError}
use Rattle.ether_pcap.specs.declared.classic.file_header_error.FileHeaderError.TheVariants as file_errors
use Rattle.ether_pcap.specs.declared.classic.pcap_record.PcapRecord.{PcapRecord}
use Rattle.ether_pcap.specs.declared.classic.record_error.RecordError.{RecordError}
use Rattle.ether_pcap.specs.declared.classic.record_error.RecordError.TheVariants as record_errors

abbrev pub order_of : ByteOrder → Order
order_of orders.BigEndian = BigEndian
order_of orders.LittleEndian = LittleEndian

abbrev pub resolution_of : TimestampResolution → Resolution
resolution_of resolutions.Microseconds = file.Microseconds
resolution_of resolutions.Nanoseconds = file.Nanoseconds

abbrev pub file_header_view : FileHeader → FileHeaderValue
file_header_view h = record {
  order = order_of h.byte_order;
  resolution = resolution_of h.resolution;
  snap_len = h.snap_len;
  link_type = h.link_type.0;
  fcs_len = h.fcs_len;
}

abbrev pub file_refusal_view : FileHeaderError → FileRefusal
file_refusal_view (file_errors.Len required len) = file.Short required len
file_refusal_view (file_errors.Magic number) = file.Magic number
file_refusal_view (file_errors.Version major minor) = file.Version major minor

abbrev pub record_view : PcapRecord → RecordValue
record_view r =
    record { seconds = r.seconds; fraction = r.fraction; original_len = r.original_len; packet = r.packet.now }

abbrev pub record_refusal_view : RecordError → RecordRefusal
record_refusal_view (record_errors.Len required len) = record_rows.Short required len
record_refusal_view (record_errors.CapturedLen len) = record_rows.TooLong len
