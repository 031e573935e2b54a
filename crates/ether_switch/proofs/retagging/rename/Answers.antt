use Rattle.std.proofs.Common.{rules, ◌≡◌, ℕ, List, drop, subst}
use Rattle.ether_peel.specs.Grammar.Stack.{Walk}
use Rattle.ether_peel.specs.Walker.Start.{start_of}
use Rattle.ether_peel.specs.declared.start.Start.TheVariants as starts
use Rattle.ether_switch.proofs.Tags.{if_err, no_tag}
use Rattle.ether_switch.proofs.retagging.rename.Goals as goal

pub returns-clause-untagged : goal.returns-clause-untagged
returns-clause-untagged c =
    let frame : drop 4 c.args.buffer.now ≡ c.split_at_mut-frame.result.1.now = search rules in
    if_err c.set_vlan_id.result _ _
    (λ error refused hs e walk.
    no_tag hs error (refused hs e (subst (λ (l : List ℕ). Walk (start_of starts.Ethernet2) l hs e) frame walk)))
    c.set_vlan_id.ensures.refused
