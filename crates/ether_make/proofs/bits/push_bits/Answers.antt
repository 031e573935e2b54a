use Rattle.std.proofs.Common.{ap, sym, ◌++◌, ◌∙◌, ◌-◌, ◌∷◌, []}
use Rattle.ether_make.specs.Bits.{bits}
use Rattle.ether_make.proofs.BitLemmas.{bits-more, bits-done}
use Rattle.ether_make.proofs.bits.push_bits.Goals as goal

pub loop-left-preserved : goal.loop-left-preserved
loop-left-preserved c =
    ap (λ xs. xs ++ bits (c.loop-left.left - 1) c.args.value) c.in_ok-push.ensures.items
    ∙ ap (λ b. (c.loop-left.bits.items ++ (b ∷ [])) ++ bits (c.loop-left.left - 1) c.args.value) c.bit_of.ensures
    ∙ bits-more c.loop-left.bits.items c.loop-left.left c.args.value c.loop-left-test.true
    ∙ c.loop-left.invariant

pub returns : goal.returns
returns c =
    sym (bits-done c.loop-left.bits.items c.loop-left.left c.args.value c.loop-left-test.false)
    ∙ c.loop-left.invariant
