use Rattle.std.proofs.Common.{rules, arith, refl, subst}
use Rattle.std.specs.List.{All}
use Rattle.std.proofs.lemmas.List.{take_all}
use Rattle.ether_capture.specs.Merging.{IsDigit}
use Rattle.ether_capture.proofs.MergingLemmas.{digits_more}
use Rattle.ether_capture.proofs.count_line.are_digits.Goals as goal

pub loop-digit-preserved : goal.loop-digit-preserved
loop-digit-preserved c =
    digits_more c.args.text.now c.loop-digit.digit-index c.loop-digit-test.true c.loop-digit.invariant (search rules)

pub returns : goal.returns
returns c = (
  λ is. subst (All IsDigit) (take_all c.loop-digit.digit-index c.args.text.now (omega (arith, c.loop-digit-test.false)))
      c.loop-digit.invariant,
  λ all. refl,
)
