use Rattle.std.proofs.Common.{sym, ap, arith, List, ◌<◌, nat_eq}
use Rattle.etherparse.specs.Header.{Header}
use Rattle.ether_peel.specs.Grammar.Stack.{Ending, Walk}
use Rattle.ether_peel.specs.Walker.Start.{start_of}
use Rattle.ether_filter.specs.Expressions.{Expression}
use Rattle.ether_filter.specs.FilterProgram.{IsProgramOf}
use Rattle.ether_filter.specs.Postfix.{postfix}
use Rattle.ether_filter.specs.Primitives.{walked}
use Rattle.ether_filter.specs.Jumps.{chosen, first_jump}
use Rattle.ether_filter.specs.Seen.{matching, Shows}
use Rattle.ether_filter.proofs.JumpsLemmas.{truth}
use Rattle.ether_filter.proofs.Truth.{Runs, past_nodes}
use Rattle.ether_filter.proofs.PastTags.{misses}
use Rattle.ether_filter.proofs.ProgramLemmas.{program_begin, program_test, program_next, program_end}
use Rattle.ether_filter.proofs.filter_program.matches_by_jumps.Goals as goal
use Rattle.ether_filter.proofs.filter_program.matches_by_jumps.Goals.{After-after-next}

pub loop-at-init : goal.loop-at-init
loop-at-init c x p hs e walk shows = program_begin (walked c.args.packet.now hs e) c.args.instructions.now x p

pub returns-in_default : goal.returns-in_default
returns-in_default c x p hs e walk shows =
    absurd (program_test (walked c.args.packet.now hs e) c.args.instructions.now x p c.loop-at.at c.loop-at-test.true
    c.in_default.ensures.none (c.loop-at.invariant x p hs e walk shows))

-- what follows a primitive
after_test : (c : After-after-next) (x : Expression) (p : IsProgramOf c.args.instructions.now x)
    (hs : List Header) (e : Ending) → Walk (start_of c.args.packet.now.start) c.args.packet.now.frame.now hs e
    → Shows (walked c.args.packet.now hs e) c.args.seen.now c.args.ids.now
    → (c.loop-at.at < c.after-next.result)
    × Runs (walked c.args.packet.now hs e) (postfix x) p.jumps x c.after-next.result
after_test c x p hs e walk shows =
    let test = c.in-Some.ensures.some in
    program_next (walked c.args.packet.now hs e) c.args.instructions.now x p c.loop-at.at c.after-next.result
    test.0 c.in-Some.matches c.loop-at-test.true (sym test.1)
    (test.2 hs e walk shows) c.after-next.ensures (c.loop-at.invariant x p hs e walk shows)

pub returns-then-next-at : goal.returns-then-next-at
returns-then-next-at c x p hs e walk shows =
    let forward = after_test (goal.at.returns-then-next-at c).After-after-next x p hs e walk shows in
    absurd (omega (arith, c.if-next-at.true, forward.0))

pub loop-at-preserved : goal.loop-at-preserved
loop-at-preserved c x p hs e walk shows =
    let w = walked c.args.packet.now hs e in
    let t = matching w in
    c.past_misses-at.ensures.reaches x p t (chosen (truth t x) first_jump)
    (misses w c.args.seen.now c.args.ids.now shows)
    (past_nodes (postfix x) (truth t x) (omega (arith, p.few, p.count)))
    (after_test (goal.at.loop-at-preserved c).After-after-next x p hs e walk shows).1

pub returns : goal.returns
returns c x p hs e walk shows =
    program_end (walked c.args.packet.now hs e) c.args.instructions.now x p c.loop-at.at
    (nat_eq c.loop-at.at c.from.result) (omega (arith, c.loop-at-test.false)) (ap (nat_eq c.loop-at.at) c.from.ensures)
    (c.loop-at.invariant x p hs e walk shows)
