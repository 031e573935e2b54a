use Rattle.std.proofs.Common.{◌+◌, ◌*◌, ◌/◌, ap, arith, ◌∙◌}
use Rattle.ether_make.proofs.PaceLemmas.{parts-sum}
use Rattle.ether_make.proofs.pace.parts.Goals as goal

pub returns-clause-sum : goal.returns-clause-sum
returns-clause-sum c =
    ap (λ p. c.args.count / c.args.rate * 1000000000 + p) c.part.ensures.sum
    ∙ parts-sum c.args.count c.args.rate 1000000000 (omega arith)
