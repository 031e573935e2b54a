use Rattle.std.proofs.Common.{◌≡◌, Some, None, rules}
use Rattle.ether_stream.specs.Task.{task_view}
use Rattle.ether_capture.specs.Options.{named}
use Rattle.ether_capture.specs.World.{names, reads}
use Rattle.ether_capture.proofs.SeveralFilesLemmas.{input_ended, run_ended}
use Rattle.ether_capture.proofs.several_files.end_of_file.Goals as goal

pub returns-in_default : goal.returns-in_default
returns-in_default g c =
    let is : named c.args.name.now ≡ None = search rules in
    rw is
    (input_ended
    (reads (names (g.C.Captures.has c.args.captures.now) g.C.Captures.can_refuse g.C.Input.Source.can_fail)
    g.R.Source.can_fail g.W.Sink.can_fail)
    (task_view c.args.task.now) _ _ _ _ c.run_input-end.result.0 c.run_input-end.result.1
    c.run_input-end.ensures.counted c.run_input-end.ensures.failed)

pub returns-in-Ok : goal.returns-in-Ok
returns-in-Ok g c =
    let is : named c.args.name.now ≡ Some c.in-Some.name.now = search rules in
    rw is
    (run_ended
    (reads (names (g.C.Captures.has c.args.captures.now) g.C.Captures.can_refuse g.C.Input.Source.can_fail)
    g.R.Source.can_fail g.W.Sink.can_fail)
    (task_view c.args.task.now) c.in-Some.name.now _ _ _ _ _ c.run_input-end-in-Ok.result.0
    c.run_input-end-in-Ok.result.1 c.in-Ok.ensures.ok c.run_input-end-in-Ok.ensures.counted
    c.run_input-end-in-Ok.ensures.failed)
