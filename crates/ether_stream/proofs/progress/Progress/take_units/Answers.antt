use Rattle.std.proofs.Common.{◌≡◌, Some, ◌+◌, ◌≤◌, ℕ, List, length, drop, subst, ◌∙◌, arith, rules}
use Rattle.std.specs.Prelude.{slice_range}
use Rattle.std.specs.Option.{option_map}
use Rattle.std.proofs.lemmas.List.{drop-drop, length-drop}
use Rattle.ether_pcap.specs.Capture.{Begins}
use Rattle.ether_pcap.specs.CaptureViews.{captured_packet_view}
use Rattle.ether_output.proofs.OutputBufferLemmas.{Marks-then}
use Rattle.ether_stream.specs.Progress.{Reached, OnNotEdited, StopsAfter}
use Rattle.ether_stream.specs.Task.{task_view}
use Rattle.ether_stream.proofs.MadeLemmas.{packet_of_unit}
use Rattle.ether_stream.proofs.ProgressLemmas.{Reached-unit, unit_is, unit_unwritten, err_is, rest_is}
use Rattle.ether_stream.proofs.progress.Progress.take_units.Goals as goal

pub loop-self-init : goal.loop-self-init
loop-self-init g c = search rules

pub take_unit-requires : goal.take_unit-requires
take_unit-requires g c = search (rules, rest_is, unit_is, packet_of_unit)

pub returns-in_err-take_unit-clause-stopped : goal.returns-in_err-take_unit-clause-stopped
returns-in_err-take_unit-clause-stopped g c =
    let going = λ (e : c.loop-self.self.left ≡ Some 0). let t = c.is_done.ensures.1 e in absurd cc in
    let whole = c.args.bytes.now in
    let at = c.loop-self.at in
    let len = c.in-Ok.unit.len in
    let task = task_view c.args.task.now in
    let packet = option_map captured_packet_view c.in-Ok.unit.packet in
    let begins =
    subst (λ (l : List ℕ). Begins l c.loop-self.self.reader len packet c.read.new.self) (rest_is whole at)
    c.in-Ok.ensures.unit in
    err_is c.from_residual.result c.in_err-take_unit.field-0.0
    (λ fault.
    OnNotEdited fault
    (λ offset. StopsAfter task g.W.Sink.contents whole c.args.self.now c.args.out.now offset c.take_unit.new.out))
    c.from_residual.ensures.1
    (unit_unwritten task g.W.Sink.contents whole (slice_range whole at (at + len)) (drop at whole) c.read.new.self len
    packet c.args.self.now c.loop-self.self c.args.out.now c.loop-self.out c.take_unit.new.out
    c.in_err-take_unit.field-0.0 going (unit_is whole at len) begins c.in_err-take_unit.ensures.stopped
    c.loop-self.invariant.reached)

pub returns-in_err-take_unit-clause-marks : goal.returns-in_err-take_unit-clause-marks
returns-in_err-take_unit-clause-marks g c = Marks-then _ _ _ c.loop-self.invariant.marks c.take_unit.ensures.marks

pub loop-self-preserved : goal.loop-self-preserved
loop-self-preserved g c =
    let going = λ (e : c.loop-self.self.left ≡ Some 0). let t = c.is_done.ensures.1 e in absurd cc in
    let whole = c.args.bytes.now in
    let at = c.loop-self.at in
    let len = c.in-Ok.unit.len in
    let so_far = c.loop-self.invariant in
    let task = task_view c.args.task.now in
    let here = rest_is whole at in
    let packet = option_map captured_packet_view c.in-Ok.unit.packet in
    let begins =
    subst (λ (l : List ℕ). Begins l c.loop-self.self.reader len packet c.read.new.self) here c.in-Ok.ensures.unit in
    let within : len ≤ length (drop at whole) = subst (λ (l : List ℕ). len ≤ length l) here c.in-Ok.ensures.within in
    let long = length-drop at whole in
    record {
      same_writer = c.take_unit.ensures.same_writer ∙ so_far.same_writer;
      marks = Marks-then _ _ _ so_far.marks c.take_unit.ensures.marks;
      within = omega (arith, within, long, so_far.within);
      reached = λ held input begun.
          subst
          (λ (l : List ℕ).
          Reached task g.W.Sink.contents held input l c.take_unit.new.self c.take_unit.new.out)
          (drop-drop len at whole)
          (Reached-unit task g.W.Sink.contents held input (drop at whole) c.loop-self.self c.take_unit.new.self
          c.read.new.self c.loop-self.out c.take_unit.new.out len packet (slice_range whole at
          (at + len)) going within begins
          (unit_is whole at len) c.in_ok-take_unit.ensures.ok (so_far.reached held input begun));
    }
