use Rattle.std.proofs.Common.{ℕ, ◌+◌, List, ◌++◌, Option, Bor, refl, sym, subst, append-nil, rules}
use Rattle.std.specs.Prelude.{codes}
use Rattle.ether_peel.specs.Grammar.Expectation.{Next, EtherType}
use Rattle.ether_peel.specs.Walker.Start.{start_with}
use Rattle.ether_peel.specs.declared.start.Start.{Start}
use Rattle.ether_pcap.specs.CaptureViews.{captured_packet_view}
use Rattle.ether_sll2.specs.LinuxSll2.{linux_sll2_of}
use Rattle.ether_output.specs.OutputBuffer.{Takes}
use Rattle.ether_text.specs.WalkText.{AnswersWalkAfter}
use Rattle.ether_output.specs.declared.output_buffer.OutputBuffer.{OutputBuffer}
use Rattle.ether_output.proofs.OutputBufferLemmas.{Takes-then}
use Rattle.ether_text.specs.Lines.{linux_sll_text}
use Rattle.ether_content.specs.Content.{ContentValue}
use Rattle.ether_content.specs.ContentViews.{cooked_view}
use Rattle.ether_stream.specs.FrameLines.{AnswersContent, packet_line_if}
use Rattle.ether_stream.specs.Packets.{counted}
use Rattle.ether_stream.specs.LinuxSll2Lines.{AnswersPayload, linux_sll2_text, read}
use Rattle.ether_stream.proofs.frame_lines.write_walk_lines.Goals.{in-Frame, in-LinuxSll, in-LinuxSll2+in-Ok}
use Rattle.ether_stream.proofs.frame_lines.write_walk_lines.Goals as goal

pub returns-in-Err : goal.returns-in-Err
returns-in-Err g c =
    let limit = c.args.options.now.limit in
    let walk = c.in-Err.ensures.ended limit in
    let line = packet_line_if c.args.options.now.is_plain (counted (c.args.count.now + 1))
    (captured_packet_view c.args.packet.now) in
    let is = rw c.in-LinuxSll2.is at c.of-content.ensures in
    record {
      text = line ++ walk.text;
      answers = record {
        lines = walk.text;
        content = subst (λ (f : ContentValue). AnswersContent limit f walk.text c.in-Err.accepted) is walk.answers;
        whole = refl;
      };
      taken = Takes-then c.write_packet_line.ensures walk.taken;
    }

pub returns-in-Unknown : goal.returns-in-Unknown
returns-in-Unknown g c = search (rules, append-nil)

pub returns : goal.returns
returns g c =
    let limit = c.args.options.now.limit in
    let contents = g.W.Sink.contents in
    let can_fail = g.W.Sink.can_fail in
    let line = packet_line_if c.args.options.now.is_plain (counted (c.args.count.now + 1))
    (captured_packet_view c.args.packet.now) in
    let walk = c.write_walk_after.ensures in
    let accepted = c.write_walk_after.result in
    let new = c.write_walk_after.new.out in
    elim c.match-content.branch [
      | in-Frame w ↦
          let is = rw w.in-Frame.is at c.of-content.ensures in
          let answers =
          subst
          (λ (t : ℕ × Start × Bor (List ℕ)).
          AnswersWalkAfter t.0 (start_with t.1 limit) t.2.now walk.text accepted)
          w.header_len-is walk.answers in
          record {
            text = line ++ walk.text;
            answers =
                record {
                  lines = walk.text;
                  content = subst (λ (f : ContentValue). AnswersContent limit f walk.text accepted) is answers;
                  whole = refl;
                };
            taken =
                Takes-then c.write_packet_line.ensures
                (subst (λ (out : OutputBuffer g.row.W.Denot). Takes contents can_fail out walk.text new) w.out-is
                walk.taken);
          }
      | in-LinuxSll w ↦
          let is = rw w.in-LinuxSll.is at c.of-content.ensures in
          let s = cooked_view w.in-LinuxSll.header in
          let payload = w.in-LinuxSll.payload.now in
          let first = linux_sll_text 0 s ++ codes "\n" in
          let answers =
          subst
          (λ (t : ℕ × Start × Bor (List ℕ)).
          AnswersWalkAfter t.0 (start_with t.1 limit) t.2.now walk.text accepted)
          w.header_len-is walk.answers in
          record {
            text = line ++ (first ++ walk.text);
            answers =
                record {
                  lines = first ++ walk.text;
                  content =
                      subst (λ (f : ContentValue). AnswersContent limit f (first ++ walk.text) accepted) is
                      (record { lines = walk.text; walk = answers; whole = refl });
                  whole = refl;
                };
            taken = Takes-then c.write_packet_line.ensures
                (Takes-then w.write_linux_sll.ensures
                (subst (λ (out : OutputBuffer g.row.W.Denot). Takes contents can_fail out walk.text new) w.out-is
                walk.taken));
          }
      | in-LinuxSll2+in-Ok w ↦
          let is = rw w.in-LinuxSll2.is at c.of-content.ensures in
          let bytes = w.in-LinuxSll2.bytes.now in
          let (begins, header) = w.in-Ok.ensures.walked in
          let answers =
          subst
          (λ (t : ℕ × Start × Bor (List ℕ)).
          AnswersWalkAfter t.0 (start_with t.1 limit) t.2.now walk.text accepted)
          w.header_len-is walk.answers in
          let payload =
          subst
          (λ (l : List ℕ).
          AnswersWalkAfter 20 (record { next = EtherType begins.ether_type; limit = limit }) l walk.text
          accepted)
          begins.rest
          (subst
          (λ (x : Next).
          AnswersWalkAfter 20 (record { next = x; limit = limit }) w.in-Ok.payload.now walk.text accepted)
          begins.next answers) in
          let whole =
          read walk.text accepted begins.accepted
          (subst (λ (o : Option ℕ). AnswersPayload limit o bytes walk.text accepted) (sym begins.announced) payload) in
          let first = linux_sll2_text (linux_sll2_of bytes) ++ codes "\n" in
          record {
            text = line ++ (first ++ walk.text);
            answers =
                record {
                  lines = first ++ walk.text;
                  content = subst (λ (f : ContentValue). AnswersContent limit f (first ++ walk.text) accepted) is whole;
                  whole = refl;
                };
            taken = Takes-then c.write_packet_line.ensures
                (Takes-then header
                (subst (λ (out : OutputBuffer g.row.W.Denot). Takes contents can_fail out walk.text new) w.out-is
                walk.taken));
          }
    ]
