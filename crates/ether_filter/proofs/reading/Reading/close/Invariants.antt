use Rattle.std.proofs.Common.{◌≡◌, ◌+◌, reverse}
use Rattle.arrayvec.specs.ArrayVec.{array_vec_len}
use Rattle.ether_filter.specs.ExpressionReading.{closed}
use Rattle.ether_filter.proofs.reading.Reading.close.Given as goal

abbrev pub invariant-loop-last : goal.invariant-loop-last
invariant-loop-last l =
    (closed l.self.nodes.items (reverse l.self.pending.items)
    ≡ closed l.fn.self.nodes.items (reverse l.fn.self.pending.items))
    × (array_vec_len l.self.nodes + array_vec_len l.self.pending
    ≡ array_vec_len l.fn.self.nodes + array_vec_len l.fn.self.pending)

abbrev pub decreases-loop-last : goal.decreases-loop-last
decreases-loop-last l = array_vec_len l.self.pending
