use Rattle.std.proofs.Common.{rules}
use Rattle.ether_format.specs.Spelling.{json_moment}
use Rattle.ether_format.proofs.spelling.write_json_moment.Goals as goal

pub returns-then-has_date : goal.returns-then-has_date
unfolding json_moment
returns-then-has_date g c = search rules

pub returns-else-has_date : goal.returns-else-has_date
unfolding json_moment
returns-else-has_date g c = search rules
