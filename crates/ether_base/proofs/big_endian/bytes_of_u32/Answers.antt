use Rattle.std.proofs.Common.{◌∙◌}
use Rattle.ether_base.proofs.Numbers.{spelled-high}
use Rattle.ether_base.proofs.big_endian.bytes_of_u32.Goals as goal

pub returns : goal.returns
returns c = c.to_be_bytes.ensures ∙ spelled-high 4 c.args.number
