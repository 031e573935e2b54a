use Rattle.std.proofs.Common.{arith}
use Rattle.ether_peel.specs.Walker.Start.{next_of}
use Rattle.ether_content.proofs.HeadersLemmas.{reaches}
use Rattle.ether_content.proofs.header_lengths.frame_len.Goals as goal

pub returns-clause-reaches : goal.returns-clause-reaches
returns-clause-reaches c =
    reaches (next_of c.args.start) c.args.frame.now c.min_snap_len.result (λ i. omega (arith, c.type_inv.frame i))
    c.min_snap_len.ensures.value
