use Rattle.ether_capture.proofs.OneStatistics.{one_statistics}
use Rattle.ether_capture.proofs.laws.statistics_are_one.Goals as goal

pub returns : goal.returns
returns c = one_statistics
