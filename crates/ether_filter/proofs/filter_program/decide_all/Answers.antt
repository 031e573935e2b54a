use Rattle.std.proofs.Common.{◌≡◌, length, refl, sym, ap, subst, ◌∙◌, arith, [], reverse}
use Rattle.std.proofs.lemmas.Bool.{eqb-true}
use Rattle.arrayvec.specs.ArrayVec.{array_vec_len}
use Rattle.std.specs.Prelude.{Option, unwrap_or, get_or}
use Rattle.ether_filter.specs.declared.decision.Decision.{Decision}
use Rattle.ether_filter.specs.declared.decision.Decision.TheVariants.{Fails}
use Rattle.ether_filter.specs.declared.node.Node.{Node}
use Rattle.ether_filter.specs.declared.node.Node.TheVariants.{Not}
use Rattle.ether_filter.specs.Expressions.{Expression}
use Rattle.ether_filter.specs.Postfix.{postfix, pushed, expression_of-postfix}
use Rattle.ether_filter.specs.Evaluation.{AreValues, IsValue}
use Rattle.ether_filter.proofs.Evaluated.{evaluates_next, evaluated}
use Rattle.ether_filter.proofs.Completions.{says_one}
use Rattle.ether_filter.proofs.ProgramLemmas.{no_instruction}
use Rattle.ether_filter.proofs.filter_program.decide_all.Goals as goal

pub loop-instruction-init : goal.loop-instruction-init
loop-instruction-init c = (
  omega (arith, ap length c.new-values.ensures),
  λ x p hs e walk ok are at. rw c.new-values.ensures (record { stack = []; values = tt; rest = refl }),
)

pub returns-then-is_full-clause-says : goal.returns-then-is_full-clause-says
returns-then-is_full-clause-says c x p hs e walk are d =
    let full =
    eqb-true (array_vec_len c.loop-instruction.values) 192 (sym c.is_full.ensures.value ∙ c.if-is_full.true) in
    absurd (omega (arith, full, c.loop-instruction.invariant.0, c.loop-instruction-test.true, p.few))

pub returns-in_default-clause-says : goal.returns-in_default-clause-says
returns-in_default-clause-says c x p hs e walk are d =
    let s = p.each c.loop-instruction.instruction-index c.loop-instruction-test.true Not no_instruction in
    let never = sym c.in_default.is ∙ c.node.ensures ∙ s.node in absurd cc

pub loop-instruction-preserved : goal.loop-instruction-preserved
loop-instruction-preserved c = (
  omega (arith, c.decide_node.ensures.len, c.loop-instruction.invariant.0),
  λ x p hs e walk ok are at.
      let s = p.each c.loop-instruction.instruction-index c.loop-instruction-test.true Not no_instruction in
      let some = sym c.in-Some.is ∙ c.node.ensures ∙ s.node in
      let node : c.in-Some.node ≡ get_or (postfix x) c.loop-instruction.instruction-index Not = cc in
      evaluates_next (IsValue c.args.packet.now hs e) c.loop-instruction.values.items c.decide_node.new.values.items
      (postfix x)
      c.loop-instruction.instruction-index Not (omega (arith, c.loop-instruction-test.true, p.count))
      (c.loop-instruction.invariant.1 x p hs e walk ok are at)
      (λ xs values. subst
      (λ (n : Node). AreValues (IsValue c.args.packet.now hs e) (reverse c.decide_node.new.values.items)
      (pushed xs n)) node
      (c.decide_node.ensures.values hs e walk ok are at xs values)),
)

pub returns-clause-says : goal.returns-clause-says
returns-clause-says c x p hs e walk are d =
    let packet = c.args.packet.now in
    let ok = c.find_opening-opening.ensures.bytes in
    let at = c.find_opening-opening.ensures.opening hs e walk in
    let value = c.unwrap_or.ensures ∙ ap (λ (o : Option Decision). unwrap_or o Fails) c.pop.ensures.value in
    let is = subst (λ (y : Expression). IsValue packet hs e c.unwrap_or.result y) (expression_of-postfix x)
    (evaluated (IsValue packet hs e) x c.loop-instruction.values.items (postfix x) c.loop-instruction.instruction-index
    c.unwrap_or.result Fails
    refl (omega (arith, c.loop-instruction-test.false, p.count))
    (c.loop-instruction.invariant.1 x p hs e walk ok are at) value) in
    says_one packet hs e x c.unwrap_or.result d ok walk is
