use Rattle.std.proofs.Common.{List, length, ap, ◌∙◌}
use Rattle.ether_pcap.specs.CaptureViews.{captured_packet_view}
use Rattle.ether_content.specs.Content.{content_of}
use Rattle.ether_format.specs.declared.csv.Count.TheVariants.{Zero}
use Rattle.ether_format.specs.Columns.{column_view}
use Rattle.ether_format.specs.Counted.{counted, is_several}
use Rattle.ether_format.specs.Gathered.{shown_values}
use Rattle.ether_format.specs.Told.{Told, is_end_accepted}
use Rattle.ether_format.proofs.CsvLemmas.{counted_visited}
use Rattle.ether_format.proofs.OneText.{one_told}
use Rattle.ether_format.proofs.csv.has_several_in_all.Goals as goal

pub returns : goal.returns
returns c moment told end accepted is tells =
    let row = c.args.row.now in
    let p = captured_packet_view row.packet.now in
    let visit = c.visit.ensures in
    let same = one_told row.limit (length p.packet) (content_of p) visit.0 told c.visit.result end
    (is_end_accepted c.visit.result) accepted visit.1 tells in
    c.is_several.ensures
    ∙ ap is_several
    (counted_visited _ _ visit.0 _ _ visit.2
    ∙ ap (λ (l : List Told). counted Zero (shown_values (column_view c.args.column) l)) same.0)
