use Rattle.std.proofs.Common.{◌≡◌, ◌+◌, [], Some, None, true, false, refl, sym, subst, ◌∙◌, rules}
use Rattle.std.specs.Prelude.{Option, Bool, IsTrue, ◌↔◌}
use Rattle.std.specs.Option.{option_map}
use Rattle.ether_pcap.specs.CaptureViews.{captured_packet_view}
use Rattle.ether_pcap.specs.declared.capture.captured_packet.CapturedPacket.{CapturedPacket}
use Rattle.ether_output.proofs.OutputBufferLemmas.{Takes-none}
use Rattle.ether_stream.specs.Packets.{counted}
use Rattle.ether_stream.specs.Progress.{IsChoice, MakesText, Makes, writes_packet}
use Rattle.ether_stream.specs.Task.{form_view, IsChosen}
use Rattle.ether_stream.specs.declared.selection.Selection.{Selection}
use Rattle.ether_stream.specs.declared.task.Form.{Form}
use Rattle.ether_stream.proofs.MadeLemmas.{other_made, left_made}
use Rattle.ether_stream.proofs.progress.Progress.write_unit.Goals as goal

choice_of : (o : Option CapturedPacket) (p : CapturedPacket) (select : Option Selection) (is_chosen : Bool) → o ≡ Some p
    → IsChoice select (option_map captured_packet_view o) is_chosen
    → IsTrue is_chosen ↔ IsChosen select (captured_packet_view p)
choice_of o p select is_chosen is choice =
    subst (λ (q : Option CapturedPacket). IsChoice select (option_map captured_packet_view q) is_chosen) is choice

pub returns-in_default-clause-some : goal.returns-in_default-clause-some
returns-in_default-clause-some g c = search (rules, other_made)

pub returns-then-not-is_chosen-clause-some : goal.returns-then-not-is_chosen-clause-some
returns-then-not-is_chosen-clause-some g c =
    let self = c.args.self.now in
    let task = c.args.task.now in
    let unit = c.args.unit.now in
    let form = form_view task.form in
    let choice = choice_of c.args.packet.now c.in-Some.packet task.selection c.args.is_chosen c.in-Some.is
    c.requires.choice in
    let left : ¬ (IsChosen task.selection (captured_packet_view c.in-Some.packet)) =
    λ is. let e : true ≡ false = sym (choice.1 is) ∙ c.if-not-is_chosen.true in absurd cc in
    subst
    (λ (o : Option CapturedPacket).
    MakesText task.selection form self.reader (counted (self.count + 1)) unit (option_map captured_packet_view o)
    g.W.Sink.contents g.W.Sink.can_fail c.args.out.now true c.args.out.now)
    (sym c.in-Some.is)
    (record {
      text = [];
      makes =
          left_made task.selection form self.reader (counted (self.count + 1)) unit
          (captured_packet_view c.in-Some.packet) left;
      taken = Takes-none g.W.Sink.contents g.W.Sink.can_fail c.args.out.now;
    })

pub returns-then-write_packet-clause-some : goal.returns-then-write_packet-clause-some
returns-then-write_packet-clause-some g c =
    let self = c.args.self.now in
    let task = c.args.task.now in
    let unit = c.args.unit.now in
    let w = c.write_packet.ensures.written c.if-write_packet.true in
    let p = captured_packet_view c.in-Some.packet in
    let choice = choice_of c.args.packet.now c.in-Some.packet task.selection c.args.is_chosen c.in-Some.is
    c.requires.choice in
    let chosen = choice.0 c.if-not-is_chosen.false in
    subst
    (λ (o : Option CapturedPacket).
    MakesText task.selection (form_view task.form) self.reader (counted (self.count + 1)) unit
    (option_map captured_packet_view o) g.W.Sink.contents g.W.Sink.can_fail c.args.out.now true c.write_packet.new.out)
    (sym c.in-Some.is)
    (subst
    (λ (f : Form).
    MakesText task.selection (form_view f) self.reader (counted (self.count + 1)) unit (Some p)
    g.W.Sink.contents g.W.Sink.can_fail c.args.out.now true c.write_packet.new.out)
    (sym c.in-Copy.is)
    (record {
      text = w.copy;
      makes = (writes_packet p w.edited (Some w.copy) chosen w.edits w.is_copy, refl);
      taken = w.taken;
    }))

pub returns-else-write_packet-clause-none : goal.returns-else-write_packet-clause-none
returns-else-write_packet-clause-none g c =
    let self = c.args.self.now in
    let task = c.args.task.now in
    let unit = c.args.unit.now in
    let w = c.write_packet.ensures.not_written c.if-write_packet.false in
    let p = captured_packet_view c.in-Some.packet in
    let choice = choice_of c.args.packet.now c.in-Some.packet task.selection c.args.is_chosen c.in-Some.is
    c.requires.choice in
    let chosen = choice.0 c.if-not-is_chosen.false in
    subst
    (λ (o : Option CapturedPacket).
    Makes task.selection (form_view task.form) self.reader (counted (self.count + 1)) unit
    (option_map captured_packet_view o) true None)
    (sym c.in-Some.is)
    (subst
    (λ (f : Form). Makes task.selection (form_view f) self.reader (counted (self.count + 1)) unit (Some p) true None)
    (sym c.in-Copy.is) (writes_packet p w.0 None chosen w.1 w.2, refl))
