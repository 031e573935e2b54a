use Rattle.std.proofs.Common.{List, true, false, subst, sym, refl}
use Rattle.etherparse.specs.Header.{Header}
use Rattle.ether_peel.specs.Grammar.Stack.{Ending, whole, Walk}
use Rattle.ether_peel.specs.Walker.Start.{start_of}
use Rattle.ether_peel.proofs.Grammar.Stacks.{some_stack}
use Rattle.ether_filter.specs.Deciding.{Says}
use Rattle.ether_filter.specs.FilterProgram.{IsProgramOf}
use Rattle.ether_filter.proofs.Kleene.{knows_so}
use Rattle.ether_filter.proofs.Completions.{fields_agree}
use Rattle.ether_filter.proofs.Waiting.{needs_all}
use Rattle.ether_filter.proofs.filter.Filter.decide.Goals as goal

-- what the decision says
says : (c : goal.After-decide) (hs : List Header) (e : Ending)
    → Walk (start_of c.args.packet.now.start) c.args.packet.now.frame.now hs e
    → Says c.args.packet.now hs e c.args.self.now c.decide.result
says c hs e walk =
    let program : IsProgramOf c.as_slice.result.now c.args.self.now =
    rw (c.as_slice.ensures.value, sym c.self.view_is) c.self.invariant in
    (c.decide.ensures.says c.args.self.now program hs e walk c.decide.result).0 refl

pub returns-clause-matches : goal.returns-clause-matches
returns-clause-matches c is more ks f completes walk_on =
    let packet = c.args.packet.now in
    let start = start_of packet.start in
    let ok = c.decide.ensures.bytes in
    let s = some_stack packet.frame.now start (whole start packet.frame.now) ok in
    knows_so packet s.0 s.1 c.args.self.now true (fields_agree packet s.0 s.1 ok s.2)
    (subst (Says packet s.0 s.1 c.args.self.now) is (says c s.0 s.1 s.2)) more ks f completes walk_on

pub returns-clause-fails : goal.returns-clause-fails
returns-clause-fails c is more ks f completes walk_on =
    let packet = c.args.packet.now in
    let start = start_of packet.start in
    let ok = c.decide.ensures.bytes in
    let s = some_stack packet.frame.now start (whole start packet.frame.now) ok in
    knows_so packet s.0 s.1 c.args.self.now false (fields_agree packet s.0 s.1 ok s.2)
    (subst (Says packet s.0 s.1 c.args.self.now) is (says c s.0 s.1 s.2)) more ks f completes walk_on

pub returns-clause-needs : goal.returns-clause-needs
returns-clause-needs c n is longer ks f none more bytes lt walk_on =
    let packet = c.args.packet.now in
    let start = start_of packet.start in
    let ok = c.decide.ensures.bytes in
    let s = some_stack packet.frame.now start (whole start packet.frame.now) ok in
    let k = subst (Says packet s.0 s.1 c.args.self.now) is (says c s.0 s.1 s.2) in
    needs_all packet longer s.0 ks s.1 f n c.args.self.now ok bytes s.2 walk_on none more lt k
