use Rattle.std.proofs.Common.{List, Option, sym, subst, false, ℕ}
use Rattle.ether_capture.specs.HeldRows.{HoldsRows}
use Rattle.ether_capture.proofs.HeldRowsLemmas.{kept_at_first}
use Rattle.ether_capture.proofs.statistics.Statistics.new.Goals as goal

pub invariant_of-result : goal.invariant_of-result
invariant_of-result g c =
    let joint = g.G.Grouping.is_joint in
    let is_known = g.J.Journal.is_known in record {
      kept =
          subst (λ (held : Option (List ℕ)). HoldsRows joint is_known false held c.new.result) (sym c.start.ensures)
          (kept_at_first joint is_known c.new.result (c.new.ensures joint));
    }
