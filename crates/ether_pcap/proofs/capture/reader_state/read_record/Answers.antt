use Rattle.std.proofs.Common.{◌≡◌, ap, ◌∙◌, Some, None}
use Rattle.ether_pcap.specs.Capture.{packet_of_record, time_of}
use Rattle.ether_pcap.specs.Views.{file_header_view, record_view}
use Rattle.ether_pcap.specs.CaptureViews.{timestamp_view}
use Rattle.ether_pcap.proofs.Captures.{record_unit}
use Rattle.ether_pcap.proofs.capture.reader_state.read_record.Goals as goal

pub returns-clause-record : goal.returns-clause-record
returns-clause-record c =
    let h = file_header_view c.args.header.now in
    let r = record_view c.in-Ok.record in
    let t = c.from_nanoseconds-time.ensures ∙ ap time_of c.nanoseconds.ensures in
    let e : record {
      time = Some (timestamp_view c.from_nanoseconds-time.result);
      interface = None;
      direction = None;
      comment = None;
      original_len = r.original_len;
      link_type = h.link_type;
      snap_len = h.snap_len;
      fcs_len = h.fcs_len;
      packet = r.packet;
    }
    ≡ packet_of_record h r
    = λ i. record {
      time = Some (t i);
      interface = None;
      direction = None;
      comment = None;
      original_len = r.original_len;
      link_type = h.link_type;
      snap_len = h.snap_len;
      fcs_len = h.fcs_len;
      packet = r.packet;
    } in
    record_unit c.args.bytes.now h r c.record_len.result _ c.in-Ok.ensures.record c.record_len.ensures e
