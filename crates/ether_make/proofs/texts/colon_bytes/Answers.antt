use Rattle.std.proofs.Common.{ap, sym, ◌∙◌, ◌+◌, ◌++◌, ◌∷◌, drop, option_map, arith}
use Rattle.ether_make.specs.Texts.{pairs_after}
use Rattle.ether_make.proofs.TextLemmas.{colon-step, colon-missing, colon-no_digits, colon-cut, colon-some, not_empty}
use Rattle.ether_make.proofs.texts.colon_bytes.Goals as goal

pub loop-at-preserved : goal.loop-at-preserved
loop-at-preserved c = record {
  inside = omega arith;
  so_far =
      c.loop-at.invariant.so_far
      ∙ colon-step c.args.text.now c.loop-at.bytes.items c.loop-at.at c.in-Some.byte c.loop-at-test.true
      (sym c.if-not-is_after_colon.ensures) (sym c.in-Some.ensures)
      ∙ ap (λ xs. option_map (λ more. xs ++ more) (pairs_after (drop (c.loop-at.at + 3) (58 ∷ c.args.text.now))))
      (sym c.in_ok-push.ensures.items);
}

pub returns-then-not-is_after_colon : goal.returns-then-not-is_after_colon
returns-then-not-is_after_colon c =
    sym (colon-some c.args.text.now (omega arith) ∙ c.loop-at.invariant.so_far
    ∙ colon-missing c.args.text.now c.loop-at.bytes.items c.loop-at.at c.loop-at-test.true
    (sym c.if-not-is_after_colon.ensures))

pub returns-in-None : goal.returns-in-None
returns-in-None c =
    sym (colon-some c.args.text.now (omega arith) ∙ c.loop-at.invariant.so_far
    ∙ colon-no_digits c.args.text.now c.loop-at.bytes.items c.loop-at.at c.loop-at-test.true
    (sym c.if-not-is_after_colon.ensures) (sym c.in-None.ensures))

pub returns-then-at-text : goal.returns-then-at-text
returns-then-at-text c =
    sym (colon-some c.args.text.now (not_empty c.args.text.now c.if-is_empty.ensures) ∙ c.loop-at.invariant.so_far
    ∙ colon-cut c.args.text.now c.loop-at.bytes.items c.loop-at.at (omega arith) (omega arith))
