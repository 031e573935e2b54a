use Rattle.std.proofs.Common.{arith}
use Rattle.ether_make.proofs.TableLemmas.{byte-taken}
use Rattle.ether_make.proofs.check_sequence.with_byte.Goals as goal

pub returns : goal.returns
returns c = rw c.from.ensures (byte-taken c.args.register c.args.byte (omega arith) (omega arith))
