use Rattle.std.proofs.Common.{ap, sym, ◌∙◌, ◌+◌, ◌++◌, drop, option_map, arith}
use Rattle.ether_make.specs.Texts.{hex_bytes}
use Rattle.ether_make.proofs.TextLemmas.{hex-step, hex-odd}
use Rattle.ether_make.proofs.texts.hex_bytes.Goals as goal

pub loop-at-preserved : goal.loop-at-preserved
loop-at-preserved c = record {
  inside = omega arith;
  so_far =
      c.loop-at.invariant.so_far
      ∙ hex-step c.args.text.now c.loop-at.bytes.items c.loop-at.at c.in-Some.byte c.loop-at-test.true
      (sym c.in-Some.ensures)
      ∙ ap (λ xs. option_map (λ more. xs ++ more) (hex_bytes (drop (c.loop-at.at + 2) c.args.text.now)))
      (sym c.in_ok-push.ensures.items);
}

pub returns-then-at-text : goal.returns-then-at-text
returns-then-at-text c =
    sym (c.loop-at.invariant.so_far
    ∙ hex-odd c.args.text.now c.loop-at.bytes.items c.loop-at.at c.if-at-text.true c.loop-at-test.false)
