use Rattle.std.proofs.Common.{arith}
use Rattle.ether_output.proofs.HexLemmas.{lower_pair}
use Rattle.ether_output.proofs.hex_digits.digit_pair.Goals as goal

pub returns : goal.returns
returns c = rw c.from.ensures (lower_pair c.args.byte (omega arith))
