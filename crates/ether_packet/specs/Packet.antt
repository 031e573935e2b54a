-- The packet of a list of bytes: the headers of its walk as values, each with its window, and the rest.
use Rattle.std.specs.Prelude.{◌≡◌, ℕ, List, [], ◌∷◌, map}
use Rattle.etherparse.specs.Header.{Header, kind_of}
use Rattle.ether_peel.specs.Grammar.Window.{Window, within, payload}
use Rattle.ether_peel.specs.Grammar.Expectation.{Expectation}
use Rattle.ether_peel.specs.Grammar.Stack.{Ending, last_window, last_expected, whole, Walk}
use Rattle.ether_peel.specs.Walker.Start.{limited_start, kind_shown}
use Rattle.ether_peel.specs.Walker.Summary.{fault_of}
use Rattle.ether_peel.specs.declared.start.Start.{Start}
use Rattle.ether_packet.specs.declared.packet_slice.PacketSlice.{PacketSlice}
use Rattle.ether_packet.specs.PacketUnit.{PacketUnit}
use Rattle.ether_packet.specs.Views.{header_of}

-- the most extensions of a packet
abbrev pub link_exts_cap : ℕ
link_exts_cap = 3

-- the expectation that a packet is read with: that of its start, with this limit
abbrev pub packet_start : Start → Expectation
packet_start start = limited_start start link_exts_cap

-- the headers of a packet, in the order of the frame
abbrev pub packet_headers : PacketSlice → List Header
packet_headers p = map header_of p.read.units

-- a header at the start of a window
pub record IsUnitAt (list : List ℕ) (w : Window) (h : Header) (u : PacketUnit) : Type 0 where
  pub kind : u.kind ≡ kind_of h
  pub offset : u.offset ≡ w.start
  pub bytes : u.bytes ≡ within list w

-- headers in a window, each in the payload of the header before it
abbrev pub AreUnitsAt : List ℕ → Window → List Header → List PacketUnit → Type 0
AreUnitsAt list w [] [] = Unit {0}
AreUnitsAt list w (h ∷ hs) (u ∷ us) = IsUnitAt list w h u × AreUnitsAt list (payload w h) hs us
AreUnitsAt list w _ _ = ⊥

-- The packet of a list, from a start on.
pub record IsPacket (start : Expectation) (list : List ℕ) (p : PacketSlice) : Type 0 where
  -- its headers are those of the list's walk
  pub ending : Ending
  pub walk : Walk start list (packet_headers p) ending
  -- which is the only one
  pub one : (hs : List Header) (e : Ending)
      → Walk start list hs e → (hs ≡ packet_headers p) × (e ≡ ending)
  -- each has its offset and the bytes of its window
  pub frame : p.read.frame ≡ list
  pub units : AreUnitsAt list (whole start list) (packet_headers p) p.read.units
  -- the rest is the last window, with what is expected there, and the fault if there is one
  pub rest : p.rest.now ≡ within list (last_window ending)
  pub offset : p.rest_offset ≡ (last_window ending).start
  pub kind : p.rest_kind ≡ kind_shown (last_expected ending)
  pub fault : p.fault ≡ fault_of ending
