-- What is certain of a packet that was cut short.
use Rattle.std.specs.Prelude.{◌≡◌, List, ℕ}
use Rattle.ether_filter.specs.declared.certain.Certain.{Certain}
use Rattle.ether_filter.specs.declared.packet.Packet.{Packet}
use Rattle.ether_filter.specs.declared.seen.Seen.{Seen}
use Rattle.ether_filter.specs.CutWalks.{IsCutWalk}
use Rattle.ether_filter.specs.WithoutFcs.{IsWithoutFcs}

-- the packet, or the packet without its frame check sequence
pub data IsPlain (packet plain : Packet) : Type 0 where
  same : plain ≡ packet → IsPlain packet plain
  without : IsWithoutFcs packet plain → IsPlain packet plain

-- the headers of the packet that are certain, and how they end
pub record AreCertain (packet : Packet) (s : Seen) (ids : List ℕ) (c : Certain) : Type 0 where
  pub plain : IsPlain packet c.packet
  pub walk : IsCutWalk c.packet s ids c.end
