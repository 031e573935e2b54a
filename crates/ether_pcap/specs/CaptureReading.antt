-- The state of an iterator over the packets of a file, and what a call of next returns, by the packets that are left
-- to read.
use Rattle.std.specs.Prelude.{◌≡◌, ℕ, ◌+◌, List, [], ◌∷◌, length, drop, Bool, true, false, Option, Some, None, Result, Ok, Err, if◌then◌else◌}
use Rattle.std.specs.Iterator.{Count, at_most}
use Rattle.ether_pcap.specs.Capture.{PacketValue, CaptureExpectation, Beginning, CaptureRefusal, Begins, IsEnd, HasPackets}
use Rattle.ether_pcap.specs.CaptureViews.{captured_packet_view, capture_refusal_view}
use Rattle.ether_pcap.specs.declared.capture.captured_packet.CapturedPacket.{CapturedPacket}
use Rattle.ether_pcap.specs.declared.capture.capture_fault.CaptureFault.{CaptureFault}

-- what is expected, the bytes that are left to read, their place in the file, and whether a refusal was returned
pub record CaptureState : Type 0 where
  pub expected : CaptureExpectation
  pub rest : List ℕ
  pub offset : ℕ
  pub over : Bool

-- how many interfaces a section may describe
abbrev pub max_interfaces : ℕ
max_interfaces = 4096

-- nothing is read
abbrev pub start : List ℕ → CaptureState
start bytes = record { expected = Beginning max_interfaces; rest = bytes; offset = 0; over = false }

-- The first packet of the bytes is in the unit that ends after len bytes. No unit before it has a packet, and the last
-- expectation holds after it.
pub data FirstPacket : CaptureExpectation → (bytes : List ℕ) → PacketValue → (len : ℕ) → CaptureExpectation
    → Type 0 where
  here : (x y : CaptureExpectation) (bytes : List ℕ) (p : PacketValue) (len : ℕ) → Begins bytes x len (Some p) y
      → FirstPacket x bytes p len y
  later : (x y z : CaptureExpectation) (bytes : List ℕ) (p : PacketValue) (len more : ℕ) → Begins bytes x len None y
      → FirstPacket y (drop len bytes) p more z → FirstPacket x bytes p (len + more) z

-- What next returns if these packets, the bytes left after them and this refusal are still to be read: None at the end
-- of the file; the refusal with its offset, after which the iterator is over; the first packet, and then the others
-- are left.
abbrev pub GivesNextPacket : List PacketValue → (left : List ℕ) → Option CaptureRefusal → CaptureState
    → Option (Result CapturedPacket CaptureFault) → CaptureState → Type 0
GivesNextPacket [] left None s result t = (result ≡ None) × IsEnd t.expected t.rest × (t.over ≡ false)
GivesNextPacket [] left (Some refusal) s result t =
    (f : CaptureFault) × (result ≡ Some (Err f)) × (capture_refusal_view f.error ≡ refusal) × (f.offset ≡ t.offset)
    × (t.rest ≡ left) × (t.over ≡ true)
GivesNextPacket (p ∷ packets) left fault s result t =
    (q : CapturedPacket) × (len : ℕ) × (result ≡ Some (Ok q)) × (captured_packet_view q ≡ p)
    × FirstPacket s.expected s.rest p len t.expected
    × (t.rest ≡ drop len s.rest) × HasPackets t.expected t.rest packets left fault × (t.over ≡ false)

-- a call of next
pub record CaptureGives (s : CaptureState) (result : Option (Result CapturedPacket CaptureFault))
    (t : CaptureState) : Type 0 where
  pub over : s.over ≡ true → (result ≡ None) × (t ≡ s)
  pub next : s.over ≡ false → (packets : List PacketValue) (left : List ℕ) (fault : Option CaptureRefusal)
      → HasPackets s.expected s.rest packets left fault → GivesNextPacket packets left fault s result t
  pub place : s.over ≡ false → t.offset + length t.rest ≡ s.offset + length s.rest

-- k bytes yield at most k packets and one refusal, and nothing after the refusal
abbrev pub items_left : CaptureState → Count
items_left s = at_most (if s.over then 0 else length s.rest + 1)
