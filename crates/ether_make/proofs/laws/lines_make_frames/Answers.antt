use Rattle.ether_make.proofs.PacketsBack.{lines_make_frames}
use Rattle.ether_make.proofs.laws.lines_make_frames.Goals as goal

pub returns : goal.returns
returns c = lines_make_frames
