use Rattle.std.proofs.Common.{map}
use Rattle.ether_make.specs.Serial.{progress_view}
use Rattle.ether_make.proofs.FileLemmas.{done-begin, last-file, next-file, next-stop}
use Rattle.ether_make.proofs.input_files.make_files.Goals as goal

pub loop-name-init : goal.loop-name-init
loop-name-init g c =
    done-begin (g.I.Inputs.has c.args.inputs.now) c.args.settings.now (progress_view c.args.progress.now)
    (map (λ s. s.now) c.args.names.now)
    (g.R.Read.remaining c.args.reader.now) (g.W.Write.contents c.args.writer.now)

pub loop-name-preserved : goal.loop-name-preserved
loop-name-preserved g c =
    next-file (g.I.Inputs.has c.args.inputs.now) c.args.settings.now (progress_view c.args.progress.now)
    c.args.names.now
    c.loop-name.name-index _ _ _ _ _ _ _ _ _ c.loop-name-test.true c.loop-name.invariant c.in_default.ensures.made

pub returns-clause-made : goal.returns-clause-made
returns-clause-made g c =
    last-file (g.I.Inputs.has c.args.inputs.now) c.args.settings.now (progress_view c.args.progress.now)
    c.args.names.now
    c.loop-name.name-index _ _ _ _ _ c.loop-name-test.false c.loop-name.invariant

pub returns-in-Err-clause-fault : goal.returns-in-Err-clause-fault
returns-in-Err-clause-fault g c =
    next-stop (g.I.Inputs.has c.args.inputs.now) c.args.settings.now (progress_view c.args.progress.now)
    c.args.names.now
    c.loop-name.name-index _ _ _ _ _ _ _ _ _ c.in-Err.fault c.loop-name-test.true c.loop-name.invariant
    c.in-Err.ensures.fault
