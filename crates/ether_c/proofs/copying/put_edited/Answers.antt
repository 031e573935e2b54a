use Rattle.std.proofs.Common.{rules}
use Rattle.std.proofs.lemmas.List.{append-nil}
use Rattle.ether_c.proofs.CopiesPut.{zeros_in}
use Rattle.ether_c.proofs.copying.put_edited.Goals as goal
use Rattle.ether_c.proofs.copying.put_edited.Goals.{in-Record, in-Block}

pub returns : goal.returns
returns c =
    elim c.match-edited.branch [
      | in-Record w ↦ search (rules, append-nil)
      | in-Block w ↦ search (rules, zeros_in)
    ]
