use Rattle.std.specs.Prelude.{None}
use Rattle.ether_content.proofs.UndecidedLemmas.{none_is}
use Rattle.ether_content.proofs.program.is_undecided.Goals as goal

pub returns : goal.returns
returns c x program =
    let n = none_is c.decide.result c.is_none.result c.is_none.ensures in
    let d = c.decide.ensures x program None in
    (λ t. d.0 (n.0 t), λ u. n.1 (d.1 u))
