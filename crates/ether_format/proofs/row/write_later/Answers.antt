use Rattle.std.proofs.Common.{List, length, drop, ap}
use Rattle.ether_pcap.specs.CaptureViews.{captured_packet_view}
use Rattle.ether_content.specs.Content.{content_of}
use Rattle.ether_output.proofs.OutputBufferLemmas.{Takes-same}
use Rattle.ether_format.specs.Columns.{column_view}
use Rattle.ether_format.specs.Gathered.{shown_values}
use Rattle.ether_format.specs.Told.{Told, is_end_accepted}
use Rattle.ether_format.specs.Values.{column_on}
use Rattle.ether_format.proofs.OneText.{one_told}
use Rattle.ether_format.proofs.RowLemmas.{later_visited}
use Rattle.ether_format.proofs.row.write_later.Goals as goal

pub returns : goal.returns
returns g c moment told end accepted is tells =
    let row = c.args.row.now in
    let p = captured_packet_view row.packet.now in
    let visit = c.visit.ensures in
    let same = one_told row.limit (length p.packet) (content_of p) visit.0 told c.visit.result end
    (is_end_accepted c.visit.result) accepted visit.1 tells in
    Takes-same
    (ap (λ (l : List Told). column_on c.args.is_first (shown_values (column_view c.args.column) (drop 4 l))) same.0)
    (later_visited g.W.Sink.contents g.W.Sink.can_fail _ c.args.out.now visit.0 _ c.visit.new.target visit.2)
