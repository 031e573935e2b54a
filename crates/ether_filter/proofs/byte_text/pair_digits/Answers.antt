use Rattle.std.proofs.Common.{◌∙◌, ◌+◌, ◌≡◌, ◌++◌, ◌∷◌, [], sym, ap, arith, List, ℕ, drop}
use Rattle.std.specs.Prelude.{option_map, slice_index}
use Rattle.ether_filter.specs.ByteTexts.{pair_digits_in}
use Rattle.ether_filter.proofs.ByteLemmas.{pair_more, pair_stops}
use Rattle.ether_filter.proofs.byte_text.pair_digits.Goals as goal

pub returns-then-word-at-ne58-clause-digits : goal.returns-then-word-at-ne58-clause-digits
returns-then-word-at-ne58-clause-digits c =
    sym (c.loop-at.invariant.2
    ∙ pair_stops c.args.word.now c.loop-at.digits.items c.loop-at.at c.loop-at-test.true c.if-word-at-ne58.true)

pub loop-at-preserved : goal.loop-at-preserved
loop-at-preserved c =
    let word = c.args.word.now in
    let at = c.loop-at.at in
    let items : c.push-in-loop-at.new.self.items
    ≡ (c.loop-at.digits.items ++ slice_index word at ∷ []) ++ slice_index word (at + 1) ∷ [] =
    c.push-in-loop-at.ensures.items
    ∙ ap (λ (l : List ℕ). l ++ slice_index word (at + 1) ∷ []) c.push.ensures.items in (
      omega (arith, c.loop-at-test.true),
      omega (arith, c.push.ensures.len, c.push-in-loop-at.ensures.len, c.loop-at.invariant.1),
      c.loop-at.invariant.2 ∙ pair_more word c.loop-at.digits.items at c.loop-at-test.true c.if-word-at-ne58.false
          ∙ ap (λ (l : List ℕ). option_map (λ ds. l ++ ds) (pair_digits_in (drop (at + 3) word))) (sym items),
    )
