use Rattle.std.proofs.Common.{◌∙◌}
use Rattle.ether_filter.proofs.NumeralLemmas.{address_read}
use Rattle.ether_filter.proofs.numeral.hex_of.Goals as goal

pub returns : goal.returns
returns c =
    c.narrowed.ensures ∙ address_read c.args.digits.now c.digits_of.result c.requires c.digits_of.ensures
