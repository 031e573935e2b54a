use Rattle.std.proofs.Common.{◌∙◌, arith, sym}
use Rattle.std.specs.Option.{option_map}
use Rattle.ether_capture.specs.CountTable.{count_at}
use Rattle.ether_capture.proofs.ResultLemmas.{then_ok}
use Rattle.ether_capture.proofs.JointLemmas.{none_together, one_together}
use Rattle.ether_capture.proofs.row_counts.count_together.Goals as goal

pub returns-then-are_empty : goal.returns-then-are_empty
returns-then-are_empty c =
    none_together c.args.heading.now c.args.texts.now c.args.count (count_at c.args.counts.now)
    (sym c.are_empty.ensures ∙ c.if-are_empty.true)

pub returns : goal.returns
returns c =
    then_ok c.count_text.result
    (one_together c.args.heading.now c.args.texts.now c.first_field.result.0.now
    (option_map (λ s. s.now) c.first_field.result.1) c.args.count c.first_field.ensures c.or_nothing.result.now
    (count_at c.args.counts.now) (count_at c.count_text.new.counts) c.or_nothing.ensures
    (sym c.are_empty.ensures ∙ c.if-are_empty.false) (omega arith, omega arith))
    c.count_text.ensures
