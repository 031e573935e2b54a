use Rattle.std.proofs.Common.{[], ◌∙◌}
use Rattle.std.proofs.Math.Seq.{take-length}
use Rattle.ether_filter.proofs.jumps.jumps_of.Goals as goal

pub returns : goal.returns
returns c x is = (c.fill.ensures.filled x [] (take-length c.args.nodes.now ∙ is)).jumps
