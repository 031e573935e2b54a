use Rattle.std.proofs.Common.{ap, ◌∙◌}
use Rattle.etherparse.specs.Ethernet2.{ethernet2_of}
use Rattle.ether_text.specs.ViewLines.{ethernet2_view_text}
use Rattle.ether_output.proofs.OutputBufferLemmas.{Takes-then, Takes-same}
use Rattle.ether_text.proofs.ViewLinesLemmas.{ethernet2_view_text-fields}
use Rattle.ether_text.proofs.write_lines.write_ethernet2.Goals as goal

pub returns : goal.returns
returns g c =
    let start = c.args.start in
    let e = ethernet2_of c.args.slice.now.bytes in
    let fields = Takes-same c.ethernet2_fields.ensures c.append_array.ensures in
    Takes-same (ethernet2_view_text-fields start e c.fcs.result ∙ ap (ethernet2_view_text start e) c.fcs.ensures)
    (Takes-then c.append.ensures (Takes-then c.write_decimal.ensures (Takes-then fields c.write_fcs.ensures)))
