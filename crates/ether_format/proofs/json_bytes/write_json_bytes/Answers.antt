use Rattle.std.proofs.Common.{length, Bool, ◌++◌, ap, refl, sym, subst}
use Rattle.ether_pcap.specs.CaptureViews.{captured_packet_view}
use Rattle.ether_content.specs.Content.{content_of}
use Rattle.ether_output.proofs.OutputBufferLemmas.{Takes-same, Takes-then}
use Rattle.ether_format.specs.Origins.{origin_view}
use Rattle.ether_format.specs.Json.{json_end_of, json_front}
use Rattle.ether_format.specs.JsonBytes.{exact_end_members, exact_members, json_bytes_line}
use Rattle.ether_format.specs.Told.{Tells}
use Rattle.ether_format.proofs.JsonBytesLemmas.{all_of, exact_visited}
use Rattle.ether_format.proofs.SomeMoment.{some_moments}
use Rattle.ether_format.proofs.json_bytes.write_json_bytes.Goals as goal

pub returns : goal.returns
returns g c =
    let p = captured_packet_view c.args.packet.now in
    let origin = origin_view c.args.origin.now in
    let told = c.visit-end.ensures.0 in
    let end = c.visit-end.result in
    let moment = some_moments p.time in
    record {
      text = json_bytes_line origin p moment.0 told end;
      answers = record {
        moment = moment.0;
        is_moment = moment.1;
        headers = told;
        end = end;
        tells =
            subst (λ (b : Bool). Tells c.args.limit (length p.packet) (content_of p) told end b)
            (sym c.is_accepted.ensures) c.visit-end.ensures.1;
        is_text = refl;
      };
      taken =
          Takes-same
          (ap (λ l. json_front origin p moment.0 ++ (l ++ json_end_of end (exact_end_members p.packet end)))
          (all_of (exact_members p.packet) told))
          (Takes-then (c.write_json_front.ensures moment.0 moment.1)
          (Takes-then
          (exact_visited g.W.Sink.contents g.W.Sink.can_fail _ c.write_json_front.new.out told _ c.visit-end.new.target
          c.visit-end.ensures.2)
          c.write_exact_end.ensures));
    }
