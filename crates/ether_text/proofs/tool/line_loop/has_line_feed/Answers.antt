use Rattle.std.proofs.Common.{◌==◌, ◌||◌, ◌∙◌, sym, ap, ℕ, Bool, slice_index}
use Rattle.std.proofs.lemmas.List.{take_all}
use Rattle.std.proofs.lemmas.List.Folds.{list_any_more}
use Rattle.std.specs.List.{list_any}
use Rattle.ether_text.proofs.tool.line_loop.has_line_feed.Goals as goal

pub loop-byte-preserved : goal.loop-byte-preserved
loop-byte-preserved c =
    let i = c.loop-byte.byte-index in
    ap (λ (found : Bool). found || (slice_index c.args.bytes.now i == 10)) c.loop-byte.invariant
    ∙ sym (list_any_more (λ (byte : ℕ). byte == 10) c.args.bytes.now i 0 c.loop-byte-test.true)

pub returns : goal.returns
returns c = let all = take_all c.loop-byte.byte-index c.args.bytes.now c.loop-byte-test.false in
    c.loop-byte.invariant ∙ ap (list_any (λ (byte : ℕ). byte == 10)) all
