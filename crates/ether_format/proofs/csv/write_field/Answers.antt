use Rattle.std.proofs.Common.{◌≡◌, ap, sym, ◌∙◌, rules}
use Rattle.std.specs.Prelude.{Option}
use Rattle.ether_fields.specs.declared.section.Section.{Section}
use Rattle.ether_fields.specs.declared.section.Section.TheVariants as parts
use Rattle.ether_pcap.specs.CaptureViews.{captured_packet_view}
use Rattle.ether_output.proofs.OutputBufferLemmas.{Takes-same}
use Rattle.ether_format.specs.Columns.{column_view, sections as sections_told}
use Rattle.ether_format.specs.Counted.{only_text}
use Rattle.ether_format.specs.Csv.{csv_field, csv_text}
use Rattle.ether_format.specs.Members.{Value, packet_columns}
use Rattle.ether_format.specs.Origins.{origin_view}
use Rattle.ether_format.specs.Values.{value_at}
use Rattle.ether_format.proofs.CsvLemmas.{frame_field}
use Rattle.ether_format.proofs.csv.write_field.Goals as goal

pub returns-then-eq : goal.returns-then-eq
returns-then-eq g c moment told end accepted is tells =
    let p = captured_packet_view c.args.row.now.packet.now in
    let origin = origin_view c.args.row.now.origin.now in
    let same : c.args.column.section ≡ parts.Frame = search rules in
    let value = c.packet_value.ensures moment
    ∙ ap (value_at (packet_columns origin p moment)) c.from-index.ensures in
    Takes-same
    (ap (λ (v : Option Value). csv_field (only_text v)) value
    ∙ frame_field origin p moment told end c.args.column.index
    ∙ ap (λ (k : Section). csv_field
    (csv_text (column_view (record { section = k; index = c.args.column.index }))
    (sections_told origin p moment told end))) (sym same))
    (c.write_shown_if.ensures moment is)
