use Rattle.std.proofs.Common.{arith}
use Rattle.ether_format.proofs.SpellingLemmas.{colon_of_six}
use Rattle.ether_format.proofs.spelling.mac_text.Goals as goal

pub returns : goal.returns
returns c =
    rw (c.digit_pair-a.ensures, c.digit_pair-b.ensures, c.digit_pair-c.ensures)
    (rw (c.digit_pair-d.ensures, c.digit_pair-e.ensures, c.digit_pair-f.ensures)
    (colon_of_six c.args.address (omega arith)))
