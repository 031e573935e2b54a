-- What is read of a capture file of either format, and why a unit is refused, as values of the formats.
use Rattle.std.specs.Prelude.{ℕ, List, map}
use Rattle.std.specs.Option.{option_map}
use Rattle.ether_pcap.specs.Capture.{TimeValue, DirectionValue, Inbound, Outbound, PacketValue, CaptureInterfaceValue, CaptureExpectation, Beginning, Records, Blocks, CaptureRefusal, File, Record, Section, Block, Body, NoInterface, TooManyInterfaces}
use Rattle.ether_pcap.specs.Views.{order_of, file_header_view, file_refusal_view, record_refusal_view}
use Rattle.ether_pcap.specs.PcapngViews.{section_refusal_view, block_refusal_view, body_refusal_view}
use Rattle.ether_pcap.specs.declared.capture.timestamp.Timestamp.{Timestamp}
use Rattle.ether_pcap.specs.declared.capture.direction.Direction.{Direction}
use Rattle.ether_pcap.specs.declared.capture.direction.Direction.TheVariants as directions
use Rattle.ether_pcap.specs.declared.capture.captured_packet.CapturedPacket.{CapturedPacket}
use Rattle.ether_pcap.specs.declared.capture.capture_interface.CaptureInterface.{CaptureInterface}
use Rattle.ether_pcap.specs.declared.capture.reader_state.ReaderState.{ReaderState}
use Rattle.ether_pcap.specs.declared.capture.reader_state.ReaderState.TheVariants as states
use Rattle.ether_pcap.specs.declared.capture.capture_error.CaptureError.{CaptureError}
use Rattle.ether_pcap.specs.declared.capture.capture_error.CaptureError.TheVariants as errors

abbrev pub timestamp_view : Timestamp → TimeValue
timestamp_view t = record { seconds = t.seconds; nanoseconds = t.nanoseconds }

abbrev pub direction_view : Direction → DirectionValue
direction_view directions.Inbound = Inbound
direction_view directions.Outbound = Outbound

abbrev pub captured_packet_view : CapturedPacket → PacketValue
captured_packet_view p = record {
  time = option_map timestamp_view p.time;
  interface = p.interface;
  direction = option_map direction_view p.direction;
  comment = option_map (λ text. text.now) p.comment;
  original_len = p.original_len;
  link_type = p.link_type.0;
  snap_len = p.snap_len;
  fcs_len = p.fcs_len;
  packet = p.packet.now;
}

abbrev pub capture_refusal_view : CaptureError → CaptureRefusal
capture_refusal_view (errors.File error) = File (file_refusal_view error)
capture_refusal_view (errors.Record error) = Record (record_refusal_view error)
capture_refusal_view (errors.Section error) = Section (section_refusal_view error)
capture_refusal_view (errors.Block error) = Block (block_refusal_view error)
capture_refusal_view (errors.Body error) = Body (body_refusal_view error)
capture_refusal_view (errors.NoInterface number) = NoInterface number
capture_refusal_view errors.TooManyInterfaces = TooManyInterfaces

abbrev pub capture_interface_view : CaptureInterface → CaptureInterfaceValue
capture_interface_view i = record {
  link_type = i.link_type.0;
  snap_len = i.snap_len;
  fcs_len = i.fcs_len;
  resolution = i.time_resolution;
  offset = i.time_offset;
}

abbrev pub interfaces_view : List CaptureInterface → List CaptureInterfaceValue
interfaces_view interfaces = map capture_interface_view interfaces

-- what a reader expects that has read this, keeps these interfaces, and has room for `most` of them
abbrev pub expectation_of : (most : ℕ) → ReaderState → List CaptureInterface → CaptureExpectation
expectation_of most states.Nothing interfaces = Beginning most
expectation_of most (states.Classic header) interfaces = Records (file_header_view header)
expectation_of most (states.Section order) interfaces = Blocks most (order_of order) (interfaces_view interfaces)
