use Rattle.std.proofs.Common.{arith}
use Rattle.ether_text.proofs.WriteHexLemmas.{of_six}
use Rattle.ether_text.proofs.write_hex.hex_address.Goals as goal

pub returns-clause-text : goal.returns-clause-text
returns-clause-text c =
    rw (c.digit_pair-a.ensures, c.digit_pair-b.ensures, c.digit_pair-c.ensures)
    (rw (c.digit_pair-d.ensures, c.digit_pair-e.ensures, c.digit_pair-f.ensures)
    (of_six c.args.address (omega arith)))

pub returns-clause-pairs : goal.returns-clause-pairs
returns-clause-pairs c =
    rw (c.digit_pair-a.ensures, c.digit_pair-b.ensures, c.digit_pair-c.ensures)
    (rw (c.digit_pair-d.ensures, c.digit_pair-e.ensures, c.digit_pair-f.ensures))
