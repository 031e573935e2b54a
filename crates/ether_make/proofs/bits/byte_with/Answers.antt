use Rattle.std.proofs.Common.{ap, ◌∙◌}
use Rattle.ether_make.specs.Bits.{bits}
use Rattle.ether_make.proofs.BitPlaces.{byte-parts, byte-small, byte-word}
use Rattle.ether_make.proofs.bits.byte_with.Goals as goal

pub overflow_cast-result-2 : goal.overflow_cast-result-2
overflow_cast-result-2 c =
    rw (byte-word c.args.byte c.args.at c.args.count c.args.value c.ranges.byte.fits c.requires)
    (record { fits = byte-small c.args.byte c.args.at c.args.count c.args.value c.ranges.byte.fits c.requires })

pub returns : goal.returns
returns c =
    ap (bits 8) (byte-word c.args.byte c.args.at c.args.count c.args.value c.ranges.byte.fits c.requires)
    ∙ byte-parts c.args.byte c.args.at c.args.count c.args.value c.ranges.byte.fits c.requires
