use Rattle.std.proofs.Common.{arith}
use Rattle.ether_peel.proofs.Walker.MainClauses.{main_clauses}
use Rattle.ether_peel.proofs.laws.main_theorem.Goals as goal

pub returns : goal.returns
returns c =
    let w = c.write_back.ensures in
    main_clauses _ _ _ _ _ (λ i. omega (arith, c.type_inv.bytes i)) c.new.ensures.state c.new.ensures.walk
    c.summary.ensures
    w.ok w.refused w.kept
