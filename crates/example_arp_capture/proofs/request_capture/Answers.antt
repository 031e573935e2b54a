use Rattle.std.proofs.Common.{rules, ◌≡◌, ℕ, ◌+◌, ◌*◌, ◌^◌, List, [], ◌∷◌, ◌++◌, length, sym, ap, subst, ◌∙◌, arith}
use Rattle.std.specs.Prelude.{Some, None}
use Rattle.std.proofs.lemmas.List.{append_assoc, append-nil, take_all}
use Rattle.etherparse.specs.Bytes.{IsBytes}
use Rattle.ether_pcap.specs.Numbers.{LittleEndian}
use Rattle.ether_pcap.specs.Record.{RecordValue}
use Rattle.ether_pcap.specs.Writing.{WritesFileHeader, WritesRecordHeader, WritesRecords, none, more}
use Rattle.ether_pcap.specs.Capture.{PacketValue, time_of, Beginning, HasPackets}
use Rattle.example_frames.specs.Request.{IsRequest}
use Rattle.example_arp_capture.specs.Capture.{header_of_capture, packet_at}
use Rattle.example_arp_capture.proofs.request_capture.Goals as goal

pub returns-clause-packets : goal.returns-clause-packets
returns-clause-packets c =
    let a = c.args in
    let file = c.to_bytes.result in
    let front = c.header_to_bytes.result in
    let frame = c.write_arp_request.new.target in
    let h = header_of_capture in
    let r : RecordValue = record { seconds = a.seconds; fraction = 0; original_len = 46; packet = frame } in
    let bytes : IsBytes file = search rules in
    let frame_len : length frame ≡ 46 = search rules in
    let request : IsRequest a.vlan_id a.sender_mac a.sender_ipv4 a.target_ipv4 frame = search (rules, take_all) in
    let writes : WritesFileHeader file h = c.to_bytes.ensures.value in
    let front_writes : WritesRecordHeader LittleEndian front r = c.header_to_bytes.ensures.value in
    let records : WritesRecords LittleEndian (front ++ frame ++ []) (r ∷ []) =
    more front [] r [] c.header_to_bytes.ensures.len front_writes (omega (arith, frame_len)) none in
    let has = λ (most : ℕ). c.written_files_are_read.ensures most file (front ++ frame ++ []) h (r ∷ []) bytes
    c.to_bytes.ensures.len
    (omega arith) tt writes records in
    let joined : file ++ (front ++ frame ++ []) ≡ file ++ front ++ frame =
    ap (λ (l : List ℕ). file ++ l) (append-nil (front ++ frame)) ∙ sym (append_assoc file front frame) in
    let packet_of : ℕ → PacketValue = λ n. record (packet_at a.seconds frame) { time = Some (time_of n) } in
    let time : a.seconds * 10 ^ 9 + 0 ≡ a.seconds * 10 ^ 9 = omega arith in
    record {
      frame = frame;
      request = request;
      has = λ most.
          subst (λ (l : List ℕ). HasPackets (Beginning most) l (packet_at a.seconds frame ∷ []) [] None) joined
          (subst (λ (n : ℕ). HasPackets (Beginning most) (file ++ (front ++ frame ++ [])) (packet_of n ∷ []) [] None)
          time (has most));
    }
