use Rattle.ether_pcap.specs.CaptureViews.{captured_packet_view}
use Rattle.ether_output.proofs.OutputBufferLemmas.{Takes-same, Takes-then}
use Rattle.ether_format.specs.Columns.{column_text, column_view, sections as sections_told}
use Rattle.ether_format.specs.Csv.{csv_text}
use Rattle.ether_format.specs.Origins.{origin_view}
use Rattle.ether_format.proofs.CsvLemmas.{column_field, enclosed_text}
use Rattle.ether_format.proofs.csv.write_values_field.Goals as goal

pub returns : goal.returns
returns g c moment told end accepted is tells =
    let row = c.args.row.now in
    let origin = origin_view row.origin.now in
    let p = captured_packet_view row.packet.now in
    let parts = sections_told origin p moment told end in
    let count = c.has_several-is_enclosed.ensures moment told end accepted is tells in
    Takes-same
    (enclosed_text (column_text (column_view c.args.column) parts) (csv_text (column_view c.args.column) parts)
    c.has_several-is_enclosed.result _ count
    (column_field origin p moment told end c.args.column.section c.args.column.index c.requires.other))
    (Takes-then c.write_quote_if.ensures
    (Takes-then (c.write_column.ensures moment told end accepted is tells) c.write_quote_if-2.ensures))
