-- The laws of capture files of either format, read unit by unit.
use Rattle.std.specs.Prelude.{◌≡◌, ◌⊎◌, ℕ, ◌<◌, ◌≤◌, List, ◌++◌, length, Option, Some, None}
use Rattle.ether_base.specs.Bytes.{IsBytes}
use Rattle.ether_pcap.specs.Capture.{CaptureExpectation, PacketValue, CaptureRefusal, Begins, RefusesCapture, required_len, HasPackets}

-- Bytes after a unit may be added or removed: it is the same unit. A refusal is the same with more bytes, unless the
-- bytes end within the unit.
pub record UnitsAreLocal : Type 0 where
  pub unit : (bytes more : List ℕ) (x y : CaptureExpectation) (len : ℕ) (p : Option PacketValue)
      → Begins bytes x len p y → Begins (bytes ++ more) x len p y
  pub alone : (bytes more : List ℕ) (x y : CaptureExpectation) (len : ℕ) (p : Option PacketValue) → len ≤ length bytes
      → Begins (bytes ++ more) x len p y → Begins bytes x len p y
  pub refused : (bytes more : List ℕ) (x : CaptureExpectation) (r : CaptureRefusal) → RefusesCapture bytes x r
      → required_len r ≡ None → RefusesCapture (bytes ++ more) x r

-- a unit has at least one byte and ends within the bytes; a required length is above their number
pub record UnitLengths : Type 0 where
  pub within : (bytes : List ℕ) (x y : CaptureExpectation) (len : ℕ) (p : Option PacketValue) → Begins bytes x len p y
      → len ≤ length bytes
  pub some : (bytes : List ℕ) (x y : CaptureExpectation) (len : ℕ) (p : Option PacketValue) → Begins bytes x len p y → 0
      < len
  pub required : (bytes : List ℕ) (x : CaptureExpectation) (r : CaptureRefusal) (n : ℕ) → RefusesCapture bytes x r
      → required_len r ≡ Some n → length bytes < n

-- any bytes begin with exactly one unit, or are refused for exactly one reason
pub record UnitsAreOne : Type 0 where
  pub some : (x : CaptureExpectation) (bytes : List ℕ)
      → ((len : ℕ) × (p : Option PacketValue) × (y : CaptureExpectation) × Begins bytes x len p y)
      ⊎ ((r : CaptureRefusal) × RefusesCapture bytes x r)
  pub one : (bytes : List ℕ) (x y z : CaptureExpectation) (len n : ℕ) (p q : Option PacketValue) → IsBytes bytes
      → Begins bytes x len p y → Begins bytes x n q z → (len ≡ n) × (p ≡ q) × (y ≡ z)
  pub apart : (bytes : List ℕ) (x y : CaptureExpectation) (len : ℕ) (p : Option PacketValue) (r : CaptureRefusal)
      → IsBytes bytes → Begins bytes x len p y → RefusesCapture bytes x r → ⊥
  pub refused : (bytes : List ℕ) (x : CaptureExpectation) (r s : CaptureRefusal) → IsBytes bytes
      → RefusesCapture bytes x r → RefusesCapture bytes x s → r ≡ s

-- the packets of bytes, the rest after them, and why it is refused
pub record Packets (x : CaptureExpectation) (bytes : List ℕ) : Type 0 where
  pub packets : List PacketValue
  pub rest : List ℕ
  pub fault : Option CaptureRefusal
  pub has : HasPackets x bytes packets rest fault

-- any bytes have exactly one list of packets, one rest and at most one refusal
pub record PacketsAreOne : Type 0 where
  pub some : (x : CaptureExpectation) (bytes : List ℕ) → Packets x bytes
  pub one : (x : CaptureExpectation) (bytes : List ℕ) (packets others : List PacketValue) (rest left : List ℕ)
      (fault other : Option CaptureRefusal) → IsBytes bytes
      → HasPackets x bytes packets rest fault → HasPackets x bytes others left other → (packets ≡ others)
      × (rest ≡ left) × (fault ≡ other)
