use Rattle.std.proofs.Common.{List, length, ap, sym, ◌∙◌}
use Rattle.ether_pcap.specs.CaptureViews.{captured_packet_view}
use Rattle.ether_content.specs.Content.{content_of}
use Rattle.ether_format.specs.declared.csv.Count.TheVariants.{Zero}
use Rattle.ether_format.specs.Columns.{column_view}
use Rattle.ether_format.specs.Counted.{counted, is_several}
use Rattle.ether_format.specs.Gathered.{shown_values}
use Rattle.ether_format.specs.Members.{Value}
use Rattle.ether_format.specs.Told.{Told}
use Rattle.ether_format.proofs.GatheredLemmas.{all_values_kept}
use Rattle.ether_format.proofs.OneText.{one_told}
use Rattle.ether_format.proofs.csv.has_several.Goals as goal

pub returns-else-has : goal.returns-else-has
returns-else-has c moment told end accepted is tells =
    let row = c.args.row.now in
    let p = captured_packet_view row.packet.now in
    let all = c.requires in
    let same = (one_told row.limit (length p.packet) (content_of p) all.0 told all.1 end all.2 accepted all.3
    tells).0 in
    let none = sym c.has.ensures ∙ c.if-has.false in
    c.is_several.ensures ∙ ap is_several c.count_in.ensures
    ∙ ap (λ (l : List Value). is_several (counted Zero l))
    (all_values_kept c.args.column c.args.headers.now c.args.gatherer.now all.0 all.4 none
    ∙ ap (λ (l : List Told). shown_values (column_view c.args.column) l) same)
