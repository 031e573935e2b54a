-- The packets of a capture file in the array that a caller in C passes.
use Rattle.std.specs.Prelude.{◌≡◌, ℕ, ◌+◌, List, [], ◌++◌, length, take, drop, Option, Some, None, unwrap_or, IfSome, ◌⊎◌}
use Rattle.std.specs.Option.{option_map}
use Rattle.ether_pcap.specs.Capture.{TimeValue, PacketValue, Beginning, HasPackets, required_len}
use Rattle.ether_pcap.specs.CaptureReading.{max_interfaces}
use Rattle.ether_pcap.specs.CaptureViews.{capture_refusal_view}
use Rattle.ether_pcap.specs.CaptureTexts.{capture_fault_text}
use Rattle.ether_pcap.specs.declared.capture.capture_fault.CaptureFault.{CaptureFault}
use Rattle.ether_c.specs.declared.ether_captured.EtherCaptured.{EtherCaptured}
use Rattle.ether_c.specs.declared.capturing.EtherCaptureEnd.{EtherCaptureEnd}
use Rattle.ether_c.specs.Numbers.{done, no_text}
use Rattle.ether_c.specs.Calls.{PutsBytes}
use Rattle.ether_c.specs.Puts.{AllMatched}

-- ---- packets

-- a time, if there is one
abbrev pub HoldsTime : EtherCaptured → Option TimeValue → Type 0
HoldsTime c None = (c.has_time ≡ 0) × (c.seconds ≡ 0) × (c.nanoseconds ≡ 0)
HoldsTime c (Some t) = (c.has_time ≡ 1) × (c.seconds ≡ t.seconds) × (c.nanoseconds ≡ t.nanoseconds)

-- the length of a frame check sequence, if it is known
abbrev pub HoldsFcsLen : EtherCaptured → Option ℕ → Type 0
HoldsFcsLen c None = (c.has_fcs_len ≡ 0) × (c.fcs_len ≡ 0)
HoldsFcsLen c (Some n) = (c.has_fcs_len ≡ 1) × (c.fcs_len ≡ n)

pub record HoldsPacket (c : EtherCaptured) (p : PacketValue) : Type 0 where
  pub bytes : c.packet.now ≡ p.packet
  pub time : HoldsTime c p.time
  pub original_len : c.original_len ≡ p.original_len
  pub link_type : c.link_type ≡ p.link_type
  pub fcs_len : HoldsFcsLen c p.fcs_len

-- each packet, in the order of the file
abbrev pub HoldPackets : List EtherCaptured → List PacketValue → Type 0
HoldPackets = AllMatched HoldsPacket

-- ---- a file

-- The packets of a file are counted. The array holds them from its front on, as many as it has room for, and then what
-- it held before. The fault says why and where they end before the file.
pub record HasCaptured (file : List ℕ) (old new : List EtherCaptured) (count : ℕ)
    (fault : Option CaptureFault) : Type 0 where
  pub packets : List PacketValue
  pub left : List ℕ
  pub has : HasPackets (Beginning max_interfaces) file packets left
      (option_map (λ f. capture_refusal_view f.error) fault)
  pub place : IfSome fault (λ f. f.offset + length left ≡ length file)
  pub given : List EtherCaptured
  pub are : HoldPackets given packets
  pub counted : count ≡ length packets
  pub held : new ≡ take (length old) given ++ drop count old

-- what the call returns if the packets end before the file: the file ends within the next unit, or there is another
-- fault
abbrev pub short : ℕ
short = 12

abbrev pub bad_capture : ℕ
bad_capture = 13

abbrev pub capture_status : Option ℕ → ℕ
capture_status (Some required) = short
capture_status None = bad_capture

-- the end of the file; or the offset of the unit that can't be read, and the number of bytes that it needs
abbrev pub HoldsEnd : (file : List ℕ) → Option CaptureFault → EtherCaptureEnd → (status : ℕ) → Type 0
HoldsEnd file None end status = (end.offset ≡ length file) × (end.needed ≡ 0) × (status ≡ done)
HoldsEnd file (Some f) end status =
    let required = required_len (capture_refusal_view f.error) in
    (end.offset ≡ f.offset) × (end.needed ≡ unwrap_or required 0) × (status ≡ capture_status required)

pub record GivesCapture (file : List ℕ) (old new : List EtherCaptured) (count : ℕ)
    (end : EtherCaptureEnd) (status : ℕ) : Type 0 where
  pub fault : Option CaptureFault
  pub captured : HasCaptured file old new count fault
  pub given : HoldsEnd file fault end status

-- ---- texts

-- The text of a fault is written to the target; or no text can be made, which no contract rules out.
abbrev pub PutsCaptureText : CaptureFault → (old new : List ℕ) → (status len : ℕ) → Type 0
PutsCaptureText f old new status len =
    PutsBytes (capture_fault_text f) old new status len
    ⊎ ((status ≡ no_text) × (len ≡ 0) × (new ≡ old))

-- no text if there is no fault
abbrev pub PutsCaptureEnd : Option CaptureFault → (old new : List ℕ) → (status len : ℕ) → Type 0
PutsCaptureEnd None old new status len = (status ≡ done) × (len ≡ 0) × (new ≡ old)
PutsCaptureEnd (Some f) old new status len = PutsCaptureText f old new status len

pub record GivesCaptureText (file old new : List ℕ) (status len : ℕ) : Type 0 where
  pub count : ℕ
  pub fault : Option CaptureFault
  pub captured : HasCaptured file [] [] count fault
  pub text : PutsCaptureEnd fault old new status len
