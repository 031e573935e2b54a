use Rattle.std.proofs.Common.{◌≤◌, List}
use Rattle.arrayvec.specs.ArrayVec.{array_vec_len}
use Rattle.etherparse.specs.Header.{Header}
use Rattle.ether_peel.specs.Grammar.Stack.{Ending, Walk}
use Rattle.ether_peel.specs.Walker.Start.{start_of}
use Rattle.ether_filter.specs.Expressions.{Expression}
use Rattle.ether_filter.specs.Postfix.{postfix}
use Rattle.ether_filter.specs.FilterProgram.{IsProgramOf}
use Rattle.etherparse.specs.Bytes.{IsBytes}
use Rattle.ether_filter.specs.Certain.{AreCertain}
use Rattle.ether_filter.specs.Evaluation.{IsOpening, IsValue}
use Rattle.ether_filter.proofs.Evaluated.{Evaluates}
use Rattle.ether_filter.proofs.filter_program.decide_all.Given as goal

abbrev pub invariant-loop-instruction : goal.invariant-loop-instruction
invariant-loop-instruction l =
    (array_vec_len l.values ≤ l.instruction-index)
    × ((x : Expression) → IsProgramOf l.instructions x → (hs : List Header) (e : Ending)
    → Walk (start_of l.packet.start) l.packet.frame.now hs e
    → IsBytes l.packet.frame.now → AreCertain l.packet l.seen l.ids l.certain → IsOpening l.packet e l.opening
    → Evaluates (IsValue l.packet hs e) l.values.items (postfix x) l.instruction-index)
