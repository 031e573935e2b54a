use Rattle.std.proofs.Common.{rules, ◌≡◌, ℕ, List, Some, subst}
use Rattle.std.specs.Prelude.{if◌then◌else◌}
use Rattle.std.specs.Str.{bytes_eq}
use Rattle.ether_capture.proofs.CountTableLemmas.{at, updates_at}
use Rattle.ether_capture.proofs.count_table.CountTable.insert.Goals as goal
use Rattle.ether_capture.proofs.count_table.CountTable.insert.Goals.{in-Ok-insert, in-Err}

pub returns : goal.returns
returns c = elim c.match-insert.branch [
  | in-Ok-insert w ↦
      rw w.result-is
      (λ q.
      subst
      (λ (l : List ℕ). at c.insert.new.self q ≡
      (if bytes_eq l q then Some c.args.count else at c.args.self.now.counts q))
      c.in-Ok.ensures.items
      (updates_at c.args.self.now.counts c.insert.new.self c.in-Ok.key.items
      (Some c.args.count) w.in-Ok-insert.ensures.updates q))
  | in-Err w ↦ search rules
]
