use Rattle.std.proofs.Common.{◌≡◌, ◌==◌, ◌+◌, ◌-◌, ℕ, false, sym, ap, ◌∙◌, take, drop, arith}
use Rattle.std.specs.List.{list_any}
use Rattle.ether_text.proofs.tool.InputLinesLemmas.{HasNoLineFeed-nil, block_skipped}
use Rattle.ether_text.proofs.tool.line_loop.blocks_len.Goals as goal

pub loop-len-init : goal.loop-len-init
loop-len-init c = (omega arith, HasNoLineFeed-nil)

pub loop-len-preserved : goal.loop-len-preserved
loop-len-preserved c =
    let at = c.loop-len.len in
    let xs = c.args.bytes.now in
    let size : at + 32 - at ≡ 32 = omega arith in
    let none : list_any (λ (byte : ℕ). byte == 10) (take 32 (drop at xs)) ≡ false =
    ap (λ (n : ℕ). list_any (λ (byte : ℕ). byte == 10) (take n (drop at xs))) (sym size)
    ∙ sym c.has_line_feed.ensures ∙ c.if-has_line_feed.false in
    (omega (arith, c.loop-len-test.true), block_skipped xs at 32 c.loop-len.invariant.0 c.loop-len.invariant.1 none)
