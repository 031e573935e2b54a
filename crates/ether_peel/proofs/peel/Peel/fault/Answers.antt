use Rattle.std.proofs.Common.{◌≡◌, sym, ap, subst, ◌∙◌}
use Rattle.std.specs.Prelude.{Some, Err}
use Rattle.ether_peel.specs.Walker.State.{State}
use Rattle.ether_peel.specs.Walker.Next.{Gives}
use Rattle.ether_peel.specs.Walker.Reading.{IsRefusedBy}
use Rattle.ether_peel.specs.declared.peel_fault.PeelFault.{PeelFault}
use Rattle.ether_peel.proofs.Walker.Steps.{shown, gives_fault, fault_at, ended}
use Rattle.ether_peel.proofs.peel.Peel.fault.Goals as goal

pub returns-clause-gives : goal.returns-clause-gives
returns-clause-gives c =
    let a = shown c.self.inside in
    let refused = subst (λ (s : State). IsRefusedBy s c.args.error) (sym c.self.view_is) c.requires in
    let gives =
    subst (λ (s : State). Gives s (Some (Err (fault_at a c.args.error))) (ended a)) c.self.view_is
    (gives_fault a c.args.error refused) in
    let at : a.offset ≡ c.offset-offset.result =
    ap (λ (s : State). s.offset) c.self.view_is ∙ sym c.offset-offset.ensures.value in
    let named = sym c.bounded.ensures in
    subst (λ (f : PeelFault). Gives c.args.self.now (Some (Err f)) (ended a))
    (λ i. record { offset = at i; error = named i; closed = a.closed }) gives
