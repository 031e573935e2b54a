use Rattle.ether_format.proofs.CsvReadingLemmas.{records_are_read}
use Rattle.ether_format.proofs.laws.records_are_read.Goals as goal

pub returns : goal.returns
returns c = records_are_read
