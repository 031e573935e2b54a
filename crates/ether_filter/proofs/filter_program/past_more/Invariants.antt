use Rattle.std.proofs.Common.{◌≤◌, ◌-◌, length}
use Rattle.ether_filter.specs.Expressions.{Expression}
use Rattle.ether_filter.specs.Jumps.{LeadsOn, MissesMore}
use Rattle.ether_filter.specs.FilterProgram.{IsProgramOf}
use Rattle.ether_filter.proofs.filter_program.past_more.Given as goal

abbrev pub invariant-loop-at : goal.invariant-loop-at
invariant-loop-at l =
    (l.fn.begin ≤ l.at)
    × ((x : Expression) (p : IsProgramOf l.instructions x) → LeadsOn x p.jumps (MissesMore l.len) l.fn.begin l.at)

abbrev pub decreases-loop-at : goal.decreases-loop-at
decreases-loop-at l = length l.instructions - l.at
