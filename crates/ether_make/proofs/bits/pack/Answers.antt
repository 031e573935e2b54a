use Rattle.std.proofs.Common.{sym, ◌∙◌}
use Rattle.ether_make.proofs.BitLemmas.{packed-done}
use Rattle.ether_make.proofs.bits.pack.Goals as goal

pub returns : goal.returns
returns c =
    sym (packed-done c.loop-at.bytes.items c.args.bits.now c.loop-at.at c.loop-at-test.false)
    ∙ c.loop-at.invariant.so_far
