use Rattle.ether_peel.proofs.Walker.SameValues.{faults_Decides, feeds_Decides, summaries_Decides, units_Decides}
use Rattle.derived_traits.proofs.peel.equality.Goals as goal

pub returns-clause-peel_fault : goal.returns-clause-peel_fault
returns-clause-peel_fault c = faults_Decides

pub returns-clause-summary : goal.returns-clause-summary
returns-clause-summary c = summaries_Decides

pub returns-clause-feed : goal.returns-clause-feed
returns-clause-feed c = feeds_Decides

pub returns-clause-peel_unit : goal.returns-clause-peel_unit
returns-clause-peel_unit c = units_Decides
