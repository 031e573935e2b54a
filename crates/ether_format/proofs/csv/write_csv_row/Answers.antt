use Rattle.std.proofs.Common.{Bool, length, refl, sym, subst}
use Rattle.ether_pcap.specs.CaptureViews.{captured_packet_view}
use Rattle.ether_content.specs.Content.{content_of}
use Rattle.ether_format.specs.Told.{Tells, is_end_accepted}
use Rattle.ether_format.proofs.GatheredLemmas.{walk_gathered}
use Rattle.ether_format.proofs.SomeMoment.{some_moments}
use Rattle.ether_format.proofs.csv.write_csv_row.Goals as goal

pub write_record-requires-clause-told : goal.write_record-requires-clause-told
write_record-requires-clause-told g c =
    let visit = c.visit-end.ensures in
    walk_gathered (λ l. l.items) c.args.limit (captured_packet_view c.args.packet.now) c.new-gatherer.result
    c.new-headers.result visit.0 c.visit-end.result (is_end_accepted c.visit-end.result)
    c.visit-end.new.visitor c.visit-end.new.target _ c.new-gatherer.ensures c.new-headers.ensures
    (sym c.as_slice-headers.ensures.value) visit.1 visit.2

pub returns : goal.returns
returns g c =
    let p = captured_packet_view c.args.packet.now in
    let told = c.visit-end.ensures.0 in
    let end = c.visit-end.result in
    let moment = some_moments p.time in
    let tells =
    subst (λ (b : Bool). Tells c.args.limit (length p.packet) (content_of p) told end b) (sym c.is_accepted.ensures)
    c.visit-end.ensures.1 in
    record {
      text = _;
      answers = record {
        moment = moment.0;
        is_moment = moment.1;
        headers = told;
        end = end;
        tells = tells;
        is_text = refl;
      };
      taken = c.write_record.ensures moment.0 told end c.is_accepted.result moment.1 tells;
    }
