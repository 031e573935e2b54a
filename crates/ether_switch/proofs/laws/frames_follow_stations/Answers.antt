use Rattle.ether_switch.proofs.Following.{frames_follow_stations}
use Rattle.ether_switch.proofs.laws.frames_follow_stations.Goals as goal

pub returns : goal.returns
returns c = frames_follow_stations
