use Rattle.std.proofs.Common.{arith}
use Rattle.ether_peel.specs.Walker.Start.{next_of}
use Rattle.ether_peel.specs.Grammar.Stack.{whole}
use Rattle.ether_peel.proofs.Walker.Limits.{cut_off}
use Rattle.ether_peel.proofs.Walker.Summarizing.{unlimited_summary}
use Rattle.ether_peel.specs.Walker.Start.{start_of}
use Rattle.std.specs.Prelude.{Some}
use Rattle.ether_peel.proofs.summarizing.summary_limited.Goals as goal

pub returns-clause-front : goal.returns-clause-front
returns-clause-front c hs ks e f s t =
    cut_off c.args.bytes.now (next_of c.args.start) (Some c.args.limit) (whole (start_of c.args.start) c.args.bytes.now)
    hs ks e f s t

pub returns-clause-spare : goal.returns-clause-spare
returns-clause-spare c lt =
    unlimited_summary (next_of c.args.start) c.args.bytes.now c.args.limit c.summarized.result
    (λ i. omega (arith, c.type_inv.bytes i)) (omega arith) c.summarized.ensures
