-- The whole frame of parts: their headers unchanged, then the rest, then the trailer.
use Rattle.std.specs.Prelude.{◌≡◌, ℕ, ◌+◌, ◌-◌, ◌^◌, ◌≤◌, List, [], ◌∷◌, ◌++◌, length, take, drop, min, flat_map}
use Rattle.etherparse.specs.Bytes.{IsBytes}
use Rattle.etherparse.specs.Types.Layer.TheVariants as layers
use Rattle.etherparse.specs.Types.SliceWriteSpaceError.{SliceWriteSpaceError}
use Rattle.etherparse.specs.Header.{Header, header_bytes}
use Rattle.etherparse.specs.WriteFront.{IsRefusedSpace}
use Rattle.ether_peel.specs.Grammar.Cleared.{cleared}
use Rattle.ether_peel.specs.Grammar.Expectation.{Expectation}
use Rattle.ether_peel.specs.Grammar.Places.{place}
use Rattle.ether_peel.specs.Grammar.Stack.{Ending, Walk}
use Rattle.ether_packet.specs.declared.packet_parts.PacketParts.{PacketParts}
use Rattle.ether_packet.specs.declared.packet_slice.PacketSlice.{PacketSlice}
use Rattle.ether_packet.specs.Building.{AllFit}
use Rattle.ether_packet.specs.Builder.{link_header, HasPacketType}
use Rattle.ether_packet.specs.Packet.{packet_headers, IsPacket}
use Rattle.ether_packet.specs.Parts.{parts_inner, trailer_of, ArePartsOf}
use Rattle.ether_packet.specs.Replacing.{Agree}
use Rattle.ether_packet.specs.ReplacingLink.{in_place_of}

abbrev pub parts_headers : PacketParts → List Header
parts_headers p = link_header p.link ∷ parts_inner p

-- the number of bytes of the frame
abbrev pub frame_size : PacketParts → ℕ
frame_size p = place (length p.rest.now + length p.trailer.now) (parts_headers p)

-- the same number, but at most the greatest `usize`
abbrev pub counted_size : PacketParts → ℕ
counted_size p = min (frame_size p) (2 ^ 64 - 1)

-- The target holds the whole frame, and then what it held before.
pub record IsFrameWritten (p : PacketParts) (old : List ℕ) (end : ℕ) (new : List ℕ) : Type 0 where
  pub ends : end ≡ frame_size p
  pub room : end ≤ length old
  pub fit : AllFit (parts_headers p)
  pub packet_type : HasPacketType p.link
  pub bytes : new ≡ flat_map header_bytes (parts_headers p) ++ p.rest.now ++ p.trailer.now ++ drop end old

-- the target is too short
abbrev pub RefusesFrame : (p : PacketParts) (target : List ℕ) → SliceWriteSpaceError → Type 0
RefusesFrame p target error = IsRefusedSpace (counted_size p) layers.EtherPayload target error

-- ---- parts of a packet

-- If these are the parts of a packet, the target begins with the frame that was read, except for the two reserved bits
-- of each SecTag.
abbrev pub IsWholeFrame : PacketParts → (end : ℕ) (new : List ℕ) → Type 0
IsWholeFrame p end new =
    (start : Expectation) (list : List ℕ) (packet : PacketSlice)
    → IsBytes list → IsPacket start list packet → ArePartsOf p packet
    → (end ≡ length list) × (take end new ≡ cleared list 0 (packet_headers packet))

abbrev pub FramesGoBack : Type 0
FramesGoBack =
    (p : PacketParts) (end : ℕ) (old new : List ℕ)
    → IsFrameWritten p old end new → IsWholeFrame p end new

-- ---- changed parts

-- each header of one list says the same about what follows it as its counterpart in the other
abbrev pub AllAgree : List Header → List Header → Type 0
AllAgree [] [] = Unit {0}
AllAgree (g ∷ gs) (h ∷ hs) = Agree g h × AllAgree gs hs
AllAgree _ _ = ⊥

-- The headers of parts as a walk reads them in place of others. The link's header has a frame check sequence if that
-- of the others has one.
abbrev pub headers_for : PacketParts → List Header → List Header
headers_for p [] = parts_headers p
headers_for p (h ∷ hs) = in_place_of p.link h ∷ parts_inner p

-- The target begins with a list as long as the old one, whose bytes after the headers are those of the old one. Its
-- walk has these headers and this ending.
pub record IsRead (start : Expectation) (old : List ℕ) (hs : List Header) (e : Ending) (end : ℕ)
    (new : List ℕ) : Type 0 where
  pub len : end ≡ length old
  pub walk : Walk start (take end new) hs e
  pub kept : drop (place 0 hs) (take end new) ≡ drop (place 0 hs) old

-- If each header agrees with its counterpart in a packet, and rest and trailer are the packet's, then the frame is
-- read with the new headers, and its walk ends as the packet's does.
abbrev pub IsChangedFrame : PacketParts → (end : ℕ) (new : List ℕ) → Type 0
IsChangedFrame p end new =
    (start : Expectation) (list : List ℕ) (packet : PacketSlice) (e : Ending)
    → IsPacket start list packet → Walk start list (packet_headers packet) e
    → AllAgree (headers_for p (packet_headers packet)) (packet_headers packet)
    → p.rest.now ≡ packet.rest.now → p.trailer.now ≡ trailer_of packet
    → IsRead start list (headers_for p (packet_headers packet)) e end new

abbrev pub ChangedFramesAreRead : Type 0
ChangedFramesAreRead =
    (p : PacketParts) (end : ℕ) (old new : List ℕ)
    → IsFrameWritten p old end new → IsChangedFrame p end new
