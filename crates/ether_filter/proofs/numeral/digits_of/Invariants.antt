use Rattle.ether_filter.proofs.NumeralLemmas.{Reads}
use Rattle.ether_filter.proofs.numeral.digits_of.Given as goal

abbrev pub invariant-loop-digit : goal.invariant-loop-digit
invariant-loop-digit l = Reads l.radix l.digits l.digit-index l.number
