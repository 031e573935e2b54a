use Rattle.std.proofs.Common.{arith, subst, sym}
use Rattle.std.proofs.lemmas.List.{drop_all}
use Rattle.ether_make.specs.CheckSteps.{TakesIn}
use Rattle.ether_make.proofs.TableLemmas.{none-taken, one-more}
use Rattle.ether_make.proofs.check_sequence.with_bytes.Goals as goal

pub loop-byte-init : goal.loop-byte-init
loop-byte-init c = λ after taken. taken

pub loop-byte-preserved : goal.loop-byte-preserved
loop-byte-preserved c =
    λ after taken.
    c.loop-byte.invariant after
    (one-more c.loop-byte.after c.with_byte-after.result after c.args.bytes.now c.loop-byte.byte-index
    (omega (arith, c.loop-byte-test.true)) c.with_byte-after.ensures taken)

pub returns : goal.returns
returns c =
    c.loop-byte.invariant c.loop-byte.after
    (subst (λ l. TakesIn c.loop-byte.after l c.loop-byte.after)
    (sym (drop_all c.loop-byte.byte-index c.args.bytes.now (omega (arith, c.loop-byte-test.false))))
    (none-taken c.loop-byte.after))
