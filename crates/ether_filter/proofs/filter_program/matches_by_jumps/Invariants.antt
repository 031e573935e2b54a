use Rattle.std.proofs.Common.{◌-◌, length, List}
use Rattle.etherparse.specs.Header.{Header}
use Rattle.ether_peel.specs.Grammar.Stack.{Ending, Walk}
use Rattle.ether_peel.specs.Walker.Start.{start_of}
use Rattle.ether_filter.specs.Expressions.{Expression}
use Rattle.ether_filter.specs.Postfix.{postfix}
use Rattle.ether_filter.specs.FilterProgram.{IsProgramOf}
use Rattle.ether_filter.specs.Primitives.{walked}
use Rattle.ether_filter.specs.Seen.{Shows}
use Rattle.ether_filter.proofs.Truth.{Runs}
use Rattle.ether_filter.proofs.filter_program.matches_by_jumps.Given as goal

abbrev pub invariant-loop-at : goal.invariant-loop-at
invariant-loop-at l =
    (x : Expression) (p : IsProgramOf l.instructions x) (hs : List Header) (e : Ending)
    → Walk (start_of l.packet.start) l.packet.frame.now hs e
    → Shows (walked l.packet hs e) l.seen l.ids → Runs (walked l.packet hs e) (postfix x) p.jumps x l.at

abbrev pub decreases-loop-at : goal.decreases-loop-at
decreases-loop-at l = length l.instructions - l.at
