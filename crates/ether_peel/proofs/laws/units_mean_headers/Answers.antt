use Rattle.ether_peel.proofs.Walker.UnitHeaders.{units_mean_headers}
use Rattle.ether_peel.proofs.laws.units_mean_headers.Goals as goal

pub returns : goal.returns
returns c = units_mean_headers
