-- A capture of an ARP request.
use Rattle.std.specs.Prelude.{ℕ, ◌*◌, ◌^◌, List, [], ◌∷◌, Some, None}
use Rattle.ether_pcap.specs.Numbers.{LittleEndian}
use Rattle.ether_pcap.specs.FileHeader.{FileHeaderValue, Nanoseconds}
use Rattle.ether_pcap.specs.Capture.{PacketValue, time_of, Beginning, HasPackets}
use Rattle.example_frames.specs.Request.{IsRequest}

-- times in nanoseconds, a snap length of 256 KiB, Ethernet (1), and no length of a check sequence
abbrev pub header_of_capture : FileHeaderValue
header_of_capture =
    record { order = LittleEndian; resolution = Nanoseconds; snap_len = 262144; link_type = 1; fcs_len = None }

-- a packet of Ethernet, without a check sequence, and not cut
abbrev pub packet_at : (seconds : ℕ) → List ℕ → PacketValue
packet_at seconds frame =
    record {
      time = Some (time_of (seconds * 10 ^ 9));
      interface = None;
      direction = None;
      comment = None;
      original_len = 46;
      link_type = 1;
      snap_len = 262144;
      fcs_len = None;
      packet = frame;
    }

-- The file has exactly one packet, the request, and nothing else, whatever number of interfaces a reader has room for.
pub record IsCaptureOfRequest (seconds vlan_id : ℕ) (mac ipv4 target bytes : List ℕ) : Type 0 where
  pub frame : List ℕ
  pub request : IsRequest vlan_id mac ipv4 target frame
  pub has : (most : ℕ) → HasPackets (Beginning most) bytes (packet_at seconds frame ∷ []) [] None
