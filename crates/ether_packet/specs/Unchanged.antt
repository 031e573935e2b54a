-- Writing a packet with its headers as they are.
use Rattle.std.specs.Prelude.{◌≡◌, ℕ, ◌≤◌, List, ◌∷◌, ◌++◌, length, drop, flat_map}
use Rattle.etherparse.specs.Types.Layer.TheVariants as layers
use Rattle.etherparse.specs.Types.SliceWriteSpaceError.{SliceWriteSpaceError}
use Rattle.etherparse.specs.Header.{Header, header_bytes}
use Rattle.etherparse.specs.WriteFront.{IsRefusedSpace}
use Rattle.ether_packet.specs.declared.packet_builder.PacketBuilder.{PacketBuilder}
use Rattle.ether_packet.specs.Building.{AllFit}
use Rattle.ether_packet.specs.Builder.{link_header, content_payload, inner_headers, packet_len}

abbrev pub given_headers : PacketBuilder → List Header
given_headers p = link_header p.link ∷ inner_headers p

-- The target holds the headers, then the payload, and then what it held before.
pub record IsWrittenUnchanged (p : PacketBuilder) (old : List ℕ) (end : ℕ) (new : List ℕ) : Type 0 where
  pub ends : end ≡ packet_len p
  pub room : end ≤ length old
  pub fit : AllFit (given_headers p)
  pub bytes : new ≡ flat_map header_bytes (given_headers p) ++ content_payload p.content ++ drop end old

-- the target is too short
abbrev pub RefusesUnchanged : (p : PacketBuilder) (target : List ℕ) → SliceWriteSpaceError → Type 0
RefusesUnchanged p target error = IsRefusedSpace (packet_len p) layers.EtherPayload target error
