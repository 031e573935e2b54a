use Rattle.std.proofs.Common.{◌+◌, nat_eq, ◌||◌, Bool, ap, ◌∙◌}
use Rattle.example_switch.proofs.Numbered.{one_more_up_to}
use Rattle.example_switch.proofs.port.ports_up_to.Goals as goal

pub loop-i-preserved : goal.loop-i-preserved
loop-i-preserved c p lt =
    let i = c.loop-i.i in
    c.insert.ensures p lt
    ∙ ap (λ (b : Bool). nat_eq p (i + 1) || b) (c.loop-i.invariant p lt)
    ∙ one_more_up_to i p
