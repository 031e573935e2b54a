use Rattle.std.proofs.Common.{rules, ℕ, List, length, length-drop, sym, ap, subst, ◌∙◌, arith}
use Rattle.ether_base.proofs.SubLists.{IsBytes-drop}
use Rattle.ether_base.specs.Bytes.{IsBytes}
use Rattle.ether_pcap.specs.Capture.{HasPackets}
use Rattle.ether_pcap.specs.CaptureReading.{CaptureState}
use Rattle.ether_pcap.proofs.Records.{rest_after}
use Rattle.ether_pcap.proofs.CaptureReadingLemmas.{after_unit, passed_unit, gives, gives_packet, gives_none, gives_fault}
use Rattle.ether_pcap.proofs.capture.capture_packets.CapturePacketsIterator.next.Goals as goal

pub returns-in-Some-clause-steps : goal.returns-in-Some-clause-steps
returns-in-Some-clause-steps c =
    let i = c.self.inside in
    let a = c.loop-self.self-inside in
    let inv = c.loop-self.invariant in
    let len = c.in-Ok.unit.len in
    let s : CaptureState = record { expected = i.reader; rest = i.rest.now; offset = i.offset; over = i.is_over } in
    let left = rest_after a.rest.now len in
    let unit = rw c.in-Some.is at c.in-Ok.ensures.unit in
    let size = ap length left ∙ length-drop len a.rest.now in
    let within = c.in-Ok.ensures.within in
    let before = inv.place in
    let g = gives s _ _ c.if-self.false
    (λ packets l fault has.
    gives_packet s _ a.rest.now len a.reader c.in-Some.packet packets l fault inv.bytes inv.passed unit left
    inv.going (inv.left packets l fault has))
    (omega (arith, size, within, before)) in
    rw (← c.self.view_is) g

pub loop-self-preserved : goal.loop-self-preserved
loop-self-preserved c =
    let a = c.loop-self.self-inside in
    let inv = c.loop-self.invariant in
    let len = c.in-Ok.unit.len in
    let left = rest_after a.rest.now len in
    let size = ap length left ∙ length-drop len a.rest.now in
    let within = c.in-Ok.ensures.within in
    let before = inv.place in
    let shrinks = inv.shrinks in
    let unit = rw c.in_default.is at c.in-Ok.ensures.unit in
    record {
      bytes = subst IsBytes (sym left) (IsBytes-drop len a.rest.now inv.bytes);
      going = inv.going;
      shrinks = omega (arith, size, within, shrinks);
      place = omega (arith, size, within, before);
      left = λ packets l fault has.
          subst (λ (bytes : List ℕ). HasPackets c.read.new.self bytes packets l fault) (sym left)
          (after_unit a.reader c.read.new.self a.rest.now len packets l fault inv.bytes unit
          (inv.left packets l fault has));
      passed = passed_unit _ a.reader c.read.new.self _ a.rest.now _ len inv.passed unit left;
    }

pub returns-in-Err-clause-steps : goal.returns-in-Err-clause-steps
returns-in-Err-clause-steps c = search (rules, gives, gives_fault)

pub returns-clause-steps : goal.returns-clause-steps
returns-clause-steps c = search (rules, gives, gives_none)

pub loop-self-init : goal.loop-self-init
loop-self-init c = search rules
