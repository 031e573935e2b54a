use Rattle.std.proofs.Common.{sym}
use Rattle.ether_make.proofs.BitLemmas.{fits-far}
use Rattle.ether_make.proofs.field_bits.fits.Goals as goal

pub returns-then-len-ge64 : goal.returns-then-len-ge64
returns-then-len-ge64 c = sym (fits-far c.args.number c.args.len c.ranges.number.fits c.if-len-ge64.true)
