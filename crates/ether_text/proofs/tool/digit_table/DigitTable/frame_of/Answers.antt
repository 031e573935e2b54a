use Rattle.std.proofs.Common.{refl}
use Rattle.ether_text.proofs.tool.ParseFrameLemmas.{bad_of_digits}
use Rattle.ether_text.proofs.tool.digit_table.DigitTable.frame_of.Goals as goal

pub returns-then-not-decode-clause-bad : goal.returns-then-not-decode-clause-bad
returns-then-not-decode-clause-bad c = (
  λ none.
      bad_of_digits _ (λ all. let yes = c.decode.ensures.digits.1 all in let no = c.if-not-decode.true in absurd (cc)),
  λ bad. refl,
)
