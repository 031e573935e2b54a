use Rattle.std.proofs.Common.{◌≡◌, ◌≤◌, ℕ, length, false}
use Rattle.etherparse.specs.Bytes.{IsBytes}
use Rattle.ether_peel.specs.Grammar.Expectation.{has_fcs}
use Rattle.ether_peel.specs.Walker.Start.{start_of}
use Rattle.ether_filter.specs.declared.packet.Packet.{Packet}
use Rattle.ether_filter.specs.TagMarks.{has_bit}
use Rattle.ether_filter.specs.Seen.{nothing}
use Rattle.ether_filter.specs.CutWalks.{frame_total}
use Rattle.ether_filter.proofs.CutWalks.{Cuts}
use Rattle.ether_filter.proofs.cut_walk.cut_walk.Given as goal

abbrev pub invariant-loop-next : goal.invariant-loop-next
invariant-loop-next l =
    (length l.known ≤ l.room) × IsBytes l.known
    × (has_fcs (start_of l.fn.start) ≡ false → l.fn.seen ≡ nothing → ((n : ℕ) → has_bit l.fn.ids n ≡ false)
    → (packet : Packet) → packet.start ≡ l.fn.start → packet.frame.now ≡ l.fn.frame → frame_total packet ≡ l.fn.total
    → Cuts packet l.next l.known l.room l.announced l.seen l.ids)

abbrev pub decreases-loop-next : goal.decreases-loop-next
decreases-loop-next l = length l.known
