use Rattle.std.proofs.Common.{rules}
use Rattle.ether_format.specs.Spelling.{interval_text}
use Rattle.ether_format.proofs.spelling.write_interval.Goals as goal

pub returns-then-has_date : goal.returns-then-has_date
unfolding interval_text
returns-then-has_date g c = search rules

pub returns-else-has_date : goal.returns-else-has_date
unfolding interval_text
returns-else-has_date g c = search rules
