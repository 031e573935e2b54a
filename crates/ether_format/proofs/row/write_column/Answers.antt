use Rattle.std.proofs.Common.{◌≡◌, ap, sym, ◌∙◌, rules, length}
use Rattle.std.specs.Prelude.{true, false, Option}
use Rattle.ether_fields.specs.declared.section.Section.TheVariants as parts
use Rattle.ether_pcap.specs.CaptureViews.{captured_packet_view}
use Rattle.ether_content.specs.Content.{content_of}
use Rattle.ether_output.proofs.OutputBufferLemmas.{Takes-same}
use Rattle.ether_format.specs.declared.end.End.{End}
use Rattle.ether_format.specs.Columns.{column_view}
use Rattle.ether_format.specs.Members.{Value, packet_columns}
use Rattle.ether_format.specs.Origins.{origin_view}
use Rattle.ether_format.specs.Values.{column_on, end_shown, if_any, is_end_section, value_at}
use Rattle.ether_format.proofs.OneText.{one_told}
use Rattle.ether_format.proofs.RowLemmas.{end_only, frame_only, headers_only}
use Rattle.ether_format.proofs.row.write_column.Goals as goal

pub returns-then-eq : goal.returns-then-eq
returns-then-eq g c moment told end accepted is tells =
    let p = captured_packet_view c.args.row.now.packet.now in
    let origin = origin_view c.args.row.now.origin.now in
    let same : c.args.column.section ≡ parts.Frame = search rules in
    let value = c.packet_value.ensures moment
    ∙ ap (value_at (packet_columns origin p moment)) c.from-index.ensures in
    Takes-same
    (ap (λ (v : Option Value). column_on true (if_any v)) value
    ∙ frame_only c.args.column.section c.args.column.index same origin p moment told end)
    (c.write_shown.ensures moment is)

pub returns-then-is_end : goal.returns-then-is_end
returns-then-is_end g c moment told end accepted is tells =
    let row = c.args.row.now in
    let p = captured_packet_view row.packet.now in
    let last : is_end_section c.args.column.section ≡ true = sym c.is_end.ensures ∙ c.if-is_end.true in
    let has = c.requires.end in
    let same = (one_told row.limit (length p.packet) (content_of p) has.0 told c.args.end.now end has.1 accepted
    has.2 tells).1 in
    Takes-same
    (ap (λ (e : End). column_on true (end_shown (column_view c.args.column) e)) same
    ∙ end_only c.args.column.section c.args.column.index last (origin_view row.origin.now) p moment told end)
    c.write_in_end.ensures

pub returns-else-is_end : goal.returns-else-is_end
returns-else-is_end g c moment told end accepted is tells =
    let row = c.args.row.now in
    let p = captured_packet_view row.packet.now in
    let other : c.args.column.section ≡ parts.Frame → ⊥ = search rules in
    let none : is_end_section c.args.column.section ≡ false = sym c.is_end.ensures ∙ c.if-is_end.false in
    Takes-same
    (headers_only c.args.column.section c.args.column.index other none (origin_view row.origin.now) p moment told end)
    (c.write_in_all.ensures moment told end accepted is tells)
