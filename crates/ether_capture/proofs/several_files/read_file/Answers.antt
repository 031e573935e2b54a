use Rattle.std.proofs.Common.{◌≢◌, Err, None, refl}
use Rattle.ether_stream.specs.Task.{task_view}
use Rattle.ether_stream.specs.declared.outcome.FileEnd.TheVariants as ends
use Rattle.ether_stream.specs.declared.outcome.RunFault.TheVariants.{Output}
use Rattle.ether_capture.specs.Options.{named}
use Rattle.ether_capture.specs.World.{names, reads, streams}
use Rattle.ether_capture.proofs.SeveralFilesLemmas.{file_read, input_kept, output_failed}
use Rattle.ether_capture.proofs.several_files.read_file.Goals as goal

pub returns-then-is_output_fault-clause-failed : goal.returns-then-is_output_fault-clause-failed
returns-then-is_output_fault-clause-failed g c =
    output_failed
    (reads (names (g.C.Captures.has c.args.captures.now) g.C.Captures.can_refuse g.C.Input.Source.can_fail)
    g.R.Source.can_fail g.W.Sink.can_fail)
    (task_view c.args.task.now) (named c.args.name.now) c.end_of_file-end.ensures.0 _ _ c.end_of_file-end.result.0
    (c.end_of_file-end.ensures.1 None (λ _. None)) (c.is_output_fault.ensures.0 c.if-is_output_fault.true)

pub returns-then-is_output_fault-clause-kept : goal.returns-then-is_output_fault-clause-kept
returns-then-is_output_fault-clause-kept g c =
    input_kept
    (reads (names (g.C.Captures.has c.args.captures.now) g.C.Captures.can_refuse g.C.Input.Source.can_fail)
    g.R.Source.can_fail g.W.Sink.can_fail)
    (task_view c.args.task.now) (named c.args.name.now) c.end_of_file-end.ensures.0 _ _ c.end_of_file-end.result.0
    (c.end_of_file-end.ensures.1 None (λ _. None))

pub returns-clause-kept : goal.returns-clause-kept
returns-clause-kept g c =
    input_kept
    (reads (names (g.C.Captures.has c.args.captures.now) g.C.Captures.can_refuse g.C.Input.Source.can_fail)
    g.R.Source.can_fail g.W.Sink.can_fail)
    (task_view c.args.task.now) (named c.args.name.now) c.end_of_file-end.ensures.0 _ _ c.end_of_file-end.result.0
    (c.end_of_file-end.ensures.1 None (λ _. None))

pub returns-clause-ok : goal.returns-clause-ok
returns-clause-ok g c = λ l at next same after files.
    let end = c.end_of_file-end.result.0 in
    let going : end ≢ ends.Read (Err Output) =
    λ e. let is = c.is_output_fault.ensures.1 e in absurd (let never = c.if-is_output_fault.false in cc) in
    file_read _ g.M.Sink.can_fail l (task_view c.args.task.now) c.args.name.now at next _
    (streams (g.R.Source.remaining c.end_of_file-end.new.reader) (g.W.Sink.contents c.end_of_file-end.new.writer)
    (g.M.Sink.contents c.args.messages.now) files) _
    c.end_of_file-end.ensures.0 end c.end_of_file-end.result.1 same
    (c.end_of_file-end.ensures.1 _ _) c.end_of_file-end.ensures.2 going c.tell_reason.ensures.told refl after
