use Rattle.std.proofs.Common.{arith}
use Rattle.ether_peel.specs.Walker.Start.{start_with}
use Rattle.ether_peel.proofs.Grammar.Cuts.{cuts_keep}
use Rattle.ether_peel.proofs.summarizing.snapped.Goals as goal

pub returns : goal.returns
returns c =
    let found = c.summarized.ensures in
    record {
      summary = found;
      keeps =
          λ open_end hs e walk.
          cuts_keep (start_with c.args.start c.args.limit) c.args.bytes.now hs e
          (λ i. omega (arith, c.type_inv.bytes i)) open_end walk c.args.n found.headers found.ending c.requires
          found.walk;
    }
