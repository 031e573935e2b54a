use Rattle.std.proofs.Common.{List, length, drop, Bool, true, ap, sym, ◌∙◌}
use Rattle.ether_pcap.specs.CaptureViews.{captured_packet_view}
use Rattle.ether_content.specs.Content.{content_of}
use Rattle.ether_output.proofs.OutputBufferLemmas.{Takes-same, Takes-then}
use Rattle.ether_format.specs.Columns.{column_view}
use Rattle.ether_format.specs.Gathered.{shown_values}
use Rattle.ether_format.specs.Told.{Told}
use Rattle.ether_format.specs.Values.{column_on}
use Rattle.ether_format.proofs.GatheredLemmas.{gathered_values, later_values}
use Rattle.ether_format.proofs.OneText.{one_told}
use Rattle.ether_format.proofs.row.write_in_all.Goals as goal

pub returns-then-has : goal.returns-then-has
returns-then-has g c moment told end accepted is tells =
    let row = c.args.row.now in
    let p = captured_packet_view row.packet.now in
    let all = c.requires in
    let same = (one_told row.limit (length p.packet) (content_of p) all.0 told all.1 end all.2 accepted all.3
    tells).0 in
    Takes-same
    (gathered_values c.args.column c.args.headers.now c.args.gatherer.now all.0 all.4
    ∙ ap (λ (l : List Told). column_on true (shown_values (column_view c.args.column) l)) same)
    (Takes-then c.write_in_headers-is_first.ensures.0
    (Takes-same (ap (λ (b : Bool). column_on b (shown_values (column_view c.args.column) (drop 4 all.0)))
    c.write_in_headers-is_first.ensures.1)
    (c.write_later.ensures moment all.0 all.1 all.2 is all.3)))

pub returns-else-has : goal.returns-else-has
returns-else-has g c moment told end accepted is tells =
    let row = c.args.row.now in
    let p = captured_packet_view row.packet.now in
    let all = c.requires in
    let same = (one_told row.limit (length p.packet) (content_of p) all.0 told all.1 end all.2 accepted all.3
    tells).0 in
    let none = sym c.has.ensures ∙ c.if-has.false in
    Takes-same
    (later_values c.args.column c.args.headers.now c.args.gatherer.now all.0 all.4 none
    ∙ ap (λ (l : List Told). column_on true (shown_values (column_view c.args.column) l)) same)
    c.write_in_headers-is_first.ensures.0
