use Rattle.std.proofs.Common.{List, ℕ, drop, sym, subst, ◌∙◌}
use Rattle.std.proofs.lemmas.Bool.{false≢true}
use Rattle.ether_switch.specs.Arrivals.{front_of}
use Rattle.ether_switch.specs.Leaving.{LeavesUntagged}
use Rattle.example_switch.proofs.Joined.{if_ok}
use Rattle.example_switch.proofs.lines.untagged_in.Goals as goal

pub returns-in-Some : goal.returns-in-Some
returns-in-Some c =
    let a = c.args in
    let r = a.received.now in
    if_ok c.rest_from.result _ _
    (λ sent is hs e walk whole.
    subst (λ (l : List ℕ). LeavesUntagged (front_of r.kind hs) (drop 4 a.buffer.now) hs e l) (sym is)
    (c.in-Some.ensures.sent hs e walk))
    c.rest_from.ensures

pub returns-in-None : goal.returns-in-None
returns-in-None c hs e walk whole = absurd (false≢true (c.in-None.ensures.goes hs e walk ∙ whole))
