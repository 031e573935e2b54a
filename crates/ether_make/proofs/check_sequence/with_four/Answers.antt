use Rattle.std.proofs.Common.{arith}
use Rattle.ether_make.proofs.TableLemmas.{four-taken}
use Rattle.ether_make.proofs.check_sequence.with_four.Goals as goal

pub returns : goal.returns
returns c =
    four-taken c.args.register c.args.a c.args.b c.args.c c.args.d c.from_le_bytes.result (omega arith) (omega arith)
    (omega arith) (omega arith) (omega arith) (omega (arith, c.from_le_bytes.ensures))
