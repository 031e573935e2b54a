use Rattle.std.proofs.Common.{sym}
use Rattle.ether_make.proofs.BitLemmas.{bit-far}
use Rattle.ether_make.proofs.bits.bit_of.Goals as goal

pub returns-then-place-ge64 : goal.returns-then-place-ge64
returns-then-place-ge64 c = sym (bit-far c.args.value c.args.place c.ranges.value.fits c.if-place-ge64.true)
