-- The units of a copy of a capture file in the target of a caller in C.
use Rattle.std.specs.Prelude.{◌≡◌, ◌≢◌, ℕ, List, ◌++◌, length, Option, Some, None}
use Rattle.ether_pcap.specs.Capture.{PacketValue, CaptureExpectation, Begins}
use Rattle.ether_pcap.specs.CaptureViews.{expectation_of}
use Rattle.ether_pcap.specs.CopiedUnits.{Changed, other_unit, packet_unit}
use Rattle.ether_pcap.specs.Editing.{EditedValue, edited_unit}
use Rattle.ether_pcap.specs.declared.capture.capture_interface.CaptureInterface.{CaptureInterface}
use Rattle.ether_pcap.specs.declared.capture.reader_state.ReaderState.{ReaderState}
use Rattle.ether_c.specs.declared.copying.Pieces.{Pieces}
use Rattle.ether_c.specs.Calls.{PutsBytes}

-- what the calls return for a unit of a packet that can't be edited, or that the copy can't have
abbrev pub uncopied : ℕ
uncopied = 23

-- the unit is written to the target, or there is none
abbrev pub PutsUnit : Option (List ℕ) → (old new : List ℕ) → (status len : ℕ) → Type 0
PutsUnit None old new status len = (status ≡ uncopied) × (len ≡ 0) × (new ≡ old)
PutsUnit (Some unit) old new status len = PutsBytes unit old new status len

-- if the bytes are the unit of a packet after which this state holds, the unit of the edited packet is written
abbrev pub GivesEdit : (unit : List ℕ) → ReaderState → EditedValue → (old new : List ℕ) → (status len : ℕ) → Type 0
GivesEdit unit state e old new status len =
    (most : ℕ) (interfaces : List CaptureInterface) (p : PacketValue)
    → let x = expectation_of most state interfaces in Begins unit x (length unit) (Some p) x
    → PutsUnit (edited_unit x (length p.packet) e unit) old new status len

-- what a copy whose snap lengths are raised has for a unit, by whether it has a packet
pub record GivesCopy (unit : List ℕ) (after : CaptureExpectation) (raise has_packet : ℕ) (old new : List ℕ)
    (status len : ℕ) : Type 0 where
  pub other : has_packet ≡ 0 → (x : CaptureExpectation) → Begins unit x (length unit) None after
      → PutsBytes (other_unit (Changed raise) after unit) old new status len
  pub packet : has_packet ≢ 0 → (p : PacketValue) → Begins unit after (length unit) (Some p) after
      → PutsUnit (packet_unit (Changed raise) after p unit) old new status len

-- bytes in pieces
abbrev pub pieces_bytes : Pieces → List ℕ
pieces_bytes p = p.front.now ++ p.changed.now ++ p.padding.now ++ p.rest.now ++ p.trailer.now
