use Rattle.std.proofs.Common.{◌/◌, ◌%◌, arith}
use Rattle.ether_output.proofs.HexLemmas.{two_bytes, upper_pair}
use Rattle.ether_output.proofs.hex_digits.hex_type.Goals as goal

pub returns : goal.returns
returns c =
    rw (c.from.ensures, c.from-2.ensures)
    (rw (upper_pair (c.args.ether_type.0 / 256) (omega arith), upper_pair (c.args.ether_type.0 % 256) (omega arith))
    (two_bytes c.args.ether_type.0 (omega arith)))
