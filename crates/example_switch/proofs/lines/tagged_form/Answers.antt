use Rattle.std.proofs.Common.{rules, ◌≡◌, List, ℕ, drop, sym, subst}
use Rattle.ether_peel.specs.Grammar.Stack.{Walk}
use Rattle.ether_peel.specs.Walker.Start.{start_of}
use Rattle.ether_peel.specs.declared.start.Start.TheVariants as starts
use Rattle.ether_switch.specs.Arrivals.{front_of}
use Rattle.ether_switch.specs.Leaving.{LeavesTagged}
use Rattle.example_switch.proofs.Joined.{if_ok}
use Rattle.example_switch.proofs.lines.tagged_form.Goals as goal

pub returns : goal.returns
returns c =
    let a = c.args in
    let r = a.received.now in
    let frame : drop 4 c.as_mut_slice.result.now ≡ a.frame.now = search rules in
    if_ok c.tagged_in.result _ _
    (λ sent leaves hs e walk whole.
    subst (λ (l : List ℕ). LeavesTagged r (front_of r.kind hs) l hs e sent.items) frame
    (leaves hs e (subst (λ (l : List ℕ). Walk (start_of starts.Ethernet2) l hs e) (sym frame) walk) whole))
    c.tagged_in.ensures
