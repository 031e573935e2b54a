use Rattle.std.proofs.Common.{arith}
use Rattle.ether_output.proofs.OutputBufferLemmas.{Takes-none, Takes-same}
use Rattle.ether_format.proofs.BriefLemmas.{no_saps, two_saps}
use Rattle.ether_format.proofs.brief.write_llc.Goals as goal

pub returns-then-bytes-ge2 : goal.returns-then-bytes-ge2
returns-then-bytes-ge2 g c = Takes-same (two_saps c.args.bytes.now (omega arith)) c.write_saps.ensures

pub returns-else-bytes-ge2 : goal.returns-else-bytes-ge2
returns-else-bytes-ge2 g c =
    Takes-same (no_saps c.args.bytes.now (omega arith)) (Takes-none g.W.Sink.contents g.W.Sink.can_fail c.args.out.now)
