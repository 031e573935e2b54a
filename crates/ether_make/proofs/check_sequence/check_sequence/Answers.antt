use Rattle.std.proofs.Common.{◌∙◌}
use Rattle.ether_make.proofs.CheckLemmas.{check-done}
use Rattle.ether_make.proofs.TableLemmas.{four-more}
use Rattle.ether_make.proofs.check_sequence.check_sequence.Goals as goal

pub loop-rest-preserved : goal.loop-rest-preserved
loop-rest-preserved c =
    λ after taken.
    c.loop-rest.invariant after
    (four-more c.loop-rest.register c.with_four-register.result after c.loop-rest.rest.now c.in-len4-up.len_at_least
    c.with_four-register.ensures taken)

pub returns : goal.returns
returns c =
    c.complemented.ensures
    ∙ check-done c.args.bytes.now c.with_bytes.result (c.loop-rest.invariant c.with_bytes.result c.with_bytes.ensures)
