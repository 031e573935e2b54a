use Rattle.ether_make.proofs.PacketLines.{lines_are_json}
use Rattle.ether_make.proofs.laws.lines_are_json.Goals as goal

pub returns : goal.returns
returns c = lines_are_json
