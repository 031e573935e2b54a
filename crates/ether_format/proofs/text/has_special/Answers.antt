use Rattle.std.proofs.Common.{sym, ◌∙◌}
use Rattle.ether_format.proofs.TextLemmas.{special_here, special_later, special_none}
use Rattle.ether_format.proofs.text.has_special.Goals as goal

pub returns-then-is_special : goal.returns-then-is_special
returns-then-is_special c =
    sym (special_here c.args.text.now c.loop-byte.byte-index c.loop-byte-test.true
    (sym c.is_special.ensures ∙ c.if-is_special.true))
    ∙ c.loop-byte.invariant

pub loop-byte-preserved : goal.loop-byte-preserved
loop-byte-preserved c =
    special_later c.args.text.now c.loop-byte.byte-index c.loop-byte-test.true
    (sym c.is_special.ensures ∙ c.if-is_special.false)
    ∙ c.loop-byte.invariant

pub returns : goal.returns
returns c = sym (special_none c.args.text.now c.loop-byte.byte-index c.loop-byte-test.false) ∙ c.loop-byte.invariant
