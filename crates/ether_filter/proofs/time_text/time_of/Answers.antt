use Rattle.std.proofs.Common.{ap, ◌∙◌}
use Rattle.ether_filter.specs.TimeTexts.{nanoseconds_in}
use Rattle.ether_filter.proofs.time_text.time_of.Goals as goal

pub returns : goal.returns
returns c = c.nanoseconds_of.ensures ∙ ap nanoseconds_in c.unquoted.ensures
