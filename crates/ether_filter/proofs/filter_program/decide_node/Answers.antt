use Rattle.std.proofs.Common.{◌++◌, ap, subst, sym, ◌∙◌, reverse}
use Rattle.std.specs.Prelude.{option_to_list}
use Rattle.ether_filter.specs.declared.node.Node.{Node}
use Rattle.ether_filter.specs.Postfix.{pushed}
use Rattle.ether_filter.specs.Evaluation.{AreValues, IsValue}
use Rattle.ether_filter.proofs.Evaluated.{join_step}
use Rattle.ether_filter.proofs.Kleene.{joined_says}
use Rattle.ether_filter.proofs.filter_program.decide_node.Goals as goal

pub returns-in-Some-Some-clause-values : goal.returns-in-Some-Some-clause-values
returns-in-Some-Some-clause-values c hs e walk ok certain at xs are =
    let packet = c.args.packet.now in
    let Is = IsValue packet hs e in
    let popped = c.pop-right.new.self.items in
    let rest = c.pop-left.new.self.items in
    let a = c.pop-right.ensures.items ∙ ap (λ o. popped ++ option_to_list o) c.in-Some-Some.is-1 in
    let b = c.pop-left.ensures.items ∙ ap (λ o. rest ++ option_to_list o) c.in-Some-Some.is-0 in
    subst (λ (n : Node). AreValues Is (reverse c.push-in-Some-Some.new.self.items) (pushed xs n)) (sym c.in-Join.is)
    (join_step Is c.args.values.now.items popped rest c.push-in-Some-Some.new.self.items xs c.in-Join.operator
    c.in-Some-Some.left c.in-Some-Some.right c.joined_decision.result a b c.push-in-Some-Some.ensures.items
    (λ x y l r. rw c.joined_decision.ensures (joined_says packet hs e c.in-Join.operator x y c.in-Some-Some.left
    c.in-Some-Some.right l r)) are)
