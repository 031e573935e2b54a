use Rattle.std.proofs.Common.{◌∙◌}
use Rattle.ether_filter.proofs.NumeralLemmas.{decimal_below, decimal_read}
use Rattle.ether_filter.proofs.numeral.decimal_of.Goals as goal

pub returns-clause-value : goal.returns-clause-value
returns-clause-value c =
    c.narrowed.ensures ∙ decimal_read c.args.digits.now c.digits_of.result c.requires c.digits_of.ensures

pub returns-clause-few : goal.returns-clause-few
returns-clause-few c =
    decimal_below c.args.digits.now c.narrowed.result c.requires
    (c.narrowed.ensures ∙ decimal_read c.args.digits.now c.digits_of.result c.requires c.digits_of.ensures)
