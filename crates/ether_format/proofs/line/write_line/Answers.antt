use Rattle.std.proofs.Common.{length, Bool, refl, sym, subst}
use Rattle.ether_pcap.specs.CaptureViews.{captured_packet_view}
use Rattle.ether_content.specs.Content.{content_of}
use Rattle.ether_output.proofs.OutputBufferLemmas.{Takes-same, Takes-then}
use Rattle.ether_format.specs.Origins.{origin_view}
use Rattle.ether_format.specs.Lines.{line_text}
use Rattle.ether_format.specs.Told.{Tells}
use Rattle.ether_format.proofs.LineLemmas.{headers_visited, whole_line}
use Rattle.ether_format.proofs.SomeMoment.{some_moments}
use Rattle.ether_format.proofs.line.write_line.Goals as goal

pub returns : goal.returns
returns g c =
    let p = captured_packet_view c.args.packet.now in
    let told = c.visit-end.ensures.0 in
    let end = c.visit-end.result in
    let moment = some_moments p.time in
    record {
      text = line_text c.args.line (origin_view c.args.origin.now) p moment.0 told end;
      answers = record {
        moment = moment.0;
        is_moment = moment.1;
        headers = told;
        end = end;
        tells =
            subst (λ (b : Bool). Tells c.args.limit (length p.packet) (content_of p) told end b)
            (sym c.is_accepted.ensures) c.visit-end.ensures.1;
        is_text = refl;
      };
      taken =
          Takes-same (whole_line c.args.line (origin_view c.args.origin.now) p moment.0 told end)
          (Takes-then (c.write_front.ensures moment.0 moment.1)
          (Takes-then
          (headers_visited g.W.Sink.contents g.W.Sink.can_fail _ c.write_front.new.out told _ c.visit-end.new.target
          c.visit-end.ensures.2)
          (Takes-then c.write_end.ensures c.write_tail.ensures)));
    }
