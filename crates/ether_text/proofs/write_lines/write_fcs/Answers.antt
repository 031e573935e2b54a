use Rattle.std.proofs.Common.{ap, sym}
use Rattle.ether_text.specs.ViewLines.{fcs_text}
use Rattle.ether_output.proofs.OutputBufferLemmas.{Takes-none, Takes-then, Takes-same}
use Rattle.ether_text.proofs.write_lines.write_fcs.Goals as goal

pub returns-in-Some : goal.returns-in-Some
returns-in-Some g c =
    Takes-same (ap fcs_text (sym c.in-Some.is))
    (Takes-then c.append.ensures (Takes-same c.hex_fcs.ensures c.append_array.ensures))

pub returns-in_default : goal.returns-in_default
returns-in_default g c =
    Takes-same (ap fcs_text (sym c.in_default.is)) (Takes-none g.W.Sink.contents g.W.Sink.can_fail c.args.out.now)
