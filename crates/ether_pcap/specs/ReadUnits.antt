-- What a unit of a capture file says, and what is known after it.
use Rattle.std.specs.Prelude.{◌≡◌, ℕ, ⊤, ◌<◌, ◌≤◌, List, [], ◌∷◌, ◌++◌, length, Option, Some, None}
use Rattle.ether_pcap.specs.Capture.{PacketValue, BlockKind, TooManyInterfaces, IsBody, RefusesBody, Begins, RefusesCapture}
use Rattle.ether_pcap.specs.Views.{order_of}
use Rattle.ether_pcap.specs.CaptureViews.{captured_packet_view, interfaces_view, expectation_of}
use Rattle.ether_pcap.specs.declared.byte_order.ByteOrder.{ByteOrder}
use Rattle.ether_pcap.specs.declared.capture.capture_interface.CaptureInterface.{CaptureInterface}
use Rattle.ether_pcap.specs.declared.capture.reader_state.ReaderState.{ReaderState}
use Rattle.ether_pcap.specs.declared.capture.reader_state.ReaderState.TheVariants as states
use Rattle.ether_pcap.specs.declared.capture.read_unit.ReadUnit.{ReadUnit}
use Rattle.ether_pcap.specs.declared.capture.read_unit.UnitContent.{UnitContent}
use Rattle.ether_pcap.specs.declared.capture.read_unit.UnitContent.TheVariants as contents

-- its packet, if it has one
abbrev pub packet_in : UnitContent → Option PacketValue
packet_in (contents.Packet p) = Some (captured_packet_view p)
packet_in _ = None

-- how far the file was read after it
abbrev pub state_after : ReaderState → UnitContent → ReaderState
state_after state (contents.FileHeader h) = states.Classic h
state_after state (contents.Section order) = states.Section order
state_after state _ = state

-- not in a classic file: each of its units is a record
abbrev pub IsNotClassic : ReaderState → Type 0
IsNotClassic (states.Classic h) = ⊥
IsNotClassic _ = ⊤

-- the interfaces that its section has described after it
abbrev pub interfaces_after : List CaptureInterface → UnitContent → List CaptureInterface
interfaces_after interfaces (contents.Section order) = []
interfaces_after interfaces (contents.Interface i) = interfaces ++ i ∷ []
interfaces_after interfaces _ = interfaces

-- a table for `most` interfaces has room for these
abbrev pub HasRoom : (most : ℕ) → List CaptureInterface → UnitContent → Type 0
HasRoom most interfaces (contents.Interface i) = length interfaces < most
HasRoom most interfaces _ = ⊤

-- .. or is full
abbrev pub IsFull : (most : ℕ) → List CaptureInterface → UnitContent → Type 0
IsFull most interfaces (contents.Interface i) = most ≤ length interfaces
IsFull most interfaces _ = ⊥

-- Bytes begin with this unit, whatever the room for interfaces; where there is none for the one that it describes, it
-- is refused.
pub record ReadsUnit (bytes : List ℕ) (state : ReaderState) (interfaces : List CaptureInterface)
    (u : ReadUnit) : Type 0 where
  pub unit : (most : ℕ) → HasRoom most interfaces u.content
      → Begins bytes (expectation_of most state interfaces) u.len (packet_in u.content)
      (expectation_of most (state_after state u.content) (interfaces_after interfaces u.content))
  pub full : (most : ℕ) → IsFull most interfaces u.content
      → RefusesCapture bytes (expectation_of most state interfaces) TooManyInterfaces

-- .. and so has the body of a block
pub record ReadsBody (kind : BlockKind) (order : ByteOrder) (interfaces : List CaptureInterface) (body : List ℕ)
    (content : UnitContent) : Type 0 where
  pub is : (most : ℕ) → HasRoom most interfaces content
      → IsBody kind most (order_of order) (interfaces_view interfaces) body (packet_in content)
      (interfaces_view (interfaces_after interfaces content))
  pub full : (most : ℕ) → IsFull most interfaces content
      → RefusesBody most (order_of order) (interfaces_view interfaces) body kind TooManyInterfaces
  pub same_state : state_after (states.Section order) content ≡ states.Section order
