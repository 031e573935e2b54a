-- A packet whose frame ends in a frame check sequence, and the same packet without it.
use Rattle.std.specs.Prelude.{◌≡◌, ◌+◌, ◌≤◌, take}
use Rattle.ether_peel.specs.declared.start.Start.TheVariants as starts
use Rattle.ether_filter.specs.declared.packet.Packet.{Packet}
use Rattle.ether_filter.specs.CutWalks.{frame_total}

-- The other packet has the frame without its check sequence of 4 bytes (IEEE 802.3, 3.2.9), before which there is room
-- for a header of 14 bytes. The captured bytes of that frame are those that lie before the check sequence.
pub record IsWithoutFcs (packet other : Packet) : Type 0 where
  pub with_fcs : packet.start ≡ starts.Ethernet2Fcs
  pub without_fcs : other.start ≡ starts.Ethernet2
  pub total : frame_total packet ≡ frame_total other + 4
  pub room : 14 ≤ frame_total other
  pub frame : other.frame.now ≡ take (frame_total other) packet.frame.now
