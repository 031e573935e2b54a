use Rattle.std.proofs.Common.{arith, sym, subst}
use Rattle.ether_base.specs.Bytes.{IsBytes}
use Rattle.ether_filter.specs.declared.packet.Packet.{Packet}
use Rattle.ether_content.proofs.UndecidedLemmas.{same_answer}
use Rattle.ether_content.proofs.program.decide_frame.Goals as goal

pub returns-in-Matches : goal.returns-in-Matches
returns-in-Matches c x program =
    same_answer x c.asked.result _ c.decide.result _ c.asked.ensures c.in-Matches.is
    (subst (λ (a : Packet). IsBytes a.frame.now) (sym c.asked.ensures) (λ i. omega (arith, c.type_inv.frame i)))
    (c.decide.ensures.says x program)

pub returns-in-Fails : goal.returns-in-Fails
returns-in-Fails c x program =
    same_answer x c.asked.result _ c.decide.result _ c.asked.ensures c.in-Fails.is
    (subst (λ (a : Packet). IsBytes a.frame.now) (sym c.asked.ensures) (λ i. omega (arith, c.type_inv.frame i)))
    (c.decide.ensures.says x program)

pub returns-in-Needs : goal.returns-in-Needs
returns-in-Needs c x program =
    same_answer x c.asked.result _ c.decide.result _ c.asked.ensures c.in-Needs.is
    (subst (λ (a : Packet). IsBytes a.frame.now) (sym c.asked.ensures) (λ i. omega (arith, c.type_inv.frame i)))
    (c.decide.ensures.says x program)
