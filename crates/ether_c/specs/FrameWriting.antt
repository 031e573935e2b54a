-- Whole frames written by calls from C.
use Rattle.std.specs.Prelude.{◌≡◌, ℕ, ◌+◌, ◌-◌, ◌^◌, ◌<◌, ◌≤◌, List, [], ◌++◌, length, drop, min, flat_map, Option}
use Rattle.etherparse.specs.Arp.{ArpValue}
use Rattle.etherparse.specs.Header.{header_bytes}
use Rattle.ether_packet.specs.declared.packet_builder.PacketBuilder.{PacketBuilder}
use Rattle.ether_packet.specs.Building.{AllFit}
use Rattle.ether_packet.specs.Builder.{packet_len}
use Rattle.ether_packet.specs.Unchanged.{given_headers}
use Rattle.ether_c.specs.declared.ether_unit.EtherUnit.{EtherUnit}
use Rattle.ether_c.specs.Building.{HasContent, PassesNoPacket, PassesParts}
use Rattle.ether_c.specs.Numbers.{done, no_room}
use Rattle.ether_c.specs.Tags.{bad_field}

-- the headers of the units, and nothing after them; the addresses of an ARP packet are in these bytes
pub record PassesHeaders (us : List EtherUnit) (bytes : List ℕ) (p : PacketBuilder) : Type 0 where
  pub arp : Option ArpValue
  pub parts : PassesParts us bytes p.link p.link_exts.now arp
  pub content : HasContent arp 0 [] p.content

-- The target holds the headers as they are, then the rest, and then what it held before; or it is too short, and
-- nothing is written. The length counts the headers and the rest, up to the greatest `usize`.
pub data GivesWritten (p : PacketBuilder) (rest old new : List ℕ) (len status : ℕ) : Type 0 where
  written : len ≡ packet_len p + length rest → len ≤ length old → AllFit (given_headers p)
      → new ≡ flat_map header_bytes (given_headers p) ++ rest ++ drop len old → status ≡ done
      → GivesWritten p rest old new len status
  too_short : length old < packet_len p + length rest → len ≡ min (packet_len p + length rest) (2 ^ 64 - 1)
      → new ≡ old → status ≡ no_room → GivesWritten p rest old new len status

-- .. where the rest is what a frame has from an offset on; or the offset is not in the frame, and nothing is written
pub data GivesRest (p : PacketBuilder) (count : ℕ) (frame : List ℕ) (at : ℕ) (old new : List ℕ)
    (len status : ℕ) : Type 0 where
  inside : at ≤ length frame → GivesWritten p (drop at frame) old new len status
      → GivesRest p count frame at old new len status
  outside : length frame < at → len ≡ count → new ≡ old → status ≡ bad_field
      → GivesRest p count frame at old new len status

-- The units make headers, which are written before the rest of a frame; or they make none, and nothing is written.
pub data GivesFrameWritten (us : List EtherUnit) (frame : List ℕ) (at : ℕ) (old new : List ℕ)
    (len status : ℕ) : Type 0 where
  given : (p : PacketBuilder) → PassesHeaders us frame p → GivesRest p (length us) frame at old new len status
      → GivesFrameWritten us frame at old new len status
  no_packet : PassesNoPacket us frame status len → new ≡ old → GivesFrameWritten us frame at old new len status
