-- The part of a captured packet that is walked.
use Rattle.std.specs.Prelude.{◌≡◌, ℕ, ◌-◌, max, List, length, take, slice_range, nat_eq, nat_lt, nat_le, Bool, true, false, ◌&&◌, not, Some, unwrap_or, if◌then◌else◌}
use Rattle.etherparse.specs.Kind as kinds
use Rattle.ether_base.specs.Formats.LinuxSll.{LinuxSllValue, linux_sll_of, is_supported}
use Rattle.ether_base.specs.Formats.LinuxSllProtocolType.{told_ether_type}
use Rattle.ether_peel.specs.Grammar.Expectation.{Next, Start, EtherType}
use Rattle.ether_sll2.specs.LinuxSll2.{AcceptsLinuxSll2, protocol_of_header}
use Rattle.ether_pcap.specs.Capture.{PacketValue}

-- some bytes of the packet were not captured
abbrev pub is_cut : PacketValue → Bool
is_cut p = nat_lt (length p.packet) p.original_len

-- the length of the frame check sequence at the end of the packet before it was cut
abbrev pub fcs_len : PacketValue → ℕ
fcs_len p = unwrap_or p.fcs_len 0

-- the length of the packet before it was cut, without the frame check sequence
abbrev pub whole_len : PacketValue → ℕ
whole_len p = max p.original_len (length p.packet) - fcs_len p

-- the captured bytes without those of the frame check sequence
abbrev pub without_fcs : PacketValue → List ℕ
without_fcs p = take (whole_len p) p.packet

-- an Ethernet frame was captured with its whole frame check sequence
abbrev pub has_fcs : PacketValue → Bool
has_fcs p = not (is_cut p) && nat_eq (fcs_len p) 4

-- The part of a packet that is walked: a frame, with how its walk starts; the payload of a packet of Linux cooked
-- capture v1, with its header; a packet of Linux cooked capture v2; or nothing.
pub data ContentValue : Type 0 where
  Frame : Next → List ℕ → ContentValue
  LinuxSll : LinuxSllValue → (payload : List ℕ) → ContentValue
  LinuxSll2 : List ℕ → ContentValue
  Unknown : ContentValue

-- Bytes begin with a header of cooked capture v1 whose packet type has a meaning, and whose hardware type is not that
-- of Ethernet and gives protocol numbers no meaning of its own (LINKTYPE_LINUX_SLL). The walk refuses such a header.
abbrev pub has_other_hardware : List ℕ → Bool
has_other_hardware bytes =
    nat_le 16 (length bytes) && nat_le (linux_sll_of bytes).packet_type 7
    && not (is_supported (linux_sll_of bytes).hardware_type)

-- a packet of cooked capture v1 is read as a frame, or by its header and payload
abbrev pub cooked_content : List ℕ → ContentValue
cooked_content bytes =
    if has_other_hardware bytes then LinuxSll (linux_sll_of bytes) (slice_range bytes 16 (length bytes))
    else Frame (Start kinds.LinuxSll) bytes

-- .. by its link type: 1 is Ethernet, 113 and 276 are Linux cooked capture v1 and v2 (the list of link types of the
-- tcpdump group). A frame check sequence of four bytes is part of an Ethernet frame if all of it was captured.
abbrev pub content_of : PacketValue → ContentValue
content_of p =
    if nat_eq p.link_type 1 then (if has_fcs p then Frame (Start kinds.Ethernet2Fcs) p.packet
    else Frame (Start kinds.Ethernet2) (without_fcs p))
    else (if nat_eq p.link_type 113 then cooked_content (without_fcs p)
    else (if nat_eq p.link_type 276 then LinuxSll2 (without_fcs p) else Unknown))

abbrev pub is_unknown : ContentValue → Bool
is_unknown (Frame next bytes) = false
is_unknown (LinuxSll s payload) = false
is_unknown (LinuxSll2 bytes) = false
is_unknown Unknown = true

-- How the walk starts, and the bytes that it goes through: a frame; the payload of cooked capture v1, whose protocol
-- number is read as an ether type; or the payload of cooked capture v2, if an ether type announces it.
pub data IsWalked : ContentValue → Next → List ℕ → Type 0 where
  frame : (next : Next) (bytes : List ℕ) → IsWalked (Frame next bytes) next bytes
  cooked : (s : LinuxSllValue) (payload : List ℕ) → IsWalked (LinuxSll s payload) (EtherType s.protocol) payload
  payload : (bytes : List ℕ) (n : ℕ) → AcceptsLinuxSll2 bytes → told_ether_type (protocol_of_header bytes) ≡ Some n
      → IsWalked (LinuxSll2 bytes) (EtherType n) (slice_range bytes 20 (length bytes))
