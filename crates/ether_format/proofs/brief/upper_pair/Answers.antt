use Rattle.std.proofs.Common.{arith}
use Rattle.ether_format.proofs.BriefLemmas.{last_digits}
use Rattle.ether_format.proofs.brief.upper_pair.Goals as goal

pub returns : goal.returns
returns c = rw (c.hex_type-digits.ensures, c.from.ensures) (last_digits c.args.byte (omega arith))
