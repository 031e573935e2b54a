use Rattle.ether_make.specs.Serial.{progress_view}
use Rattle.ether_make.proofs.FileLemmas.{files-made, files-stopped, unless}
use Rattle.ether_make.proofs.input_files.run_files.Goals as goal

pub returns-in-Ok-write_end-clause-made : goal.returns-in-Ok-write_end-clause-made
returns-in-Ok-write_end-clause-made g c =
    let names = c.or_input.ensures in
    rw (← names)
    (files-made _ c.args.settings.now (progress_view c.new-progress.result)
    (progress_view c.make_files.new.progress) _ _ _ _ _ _ c.new-progress.ensures c.in-Ok.ensures.made
    c.in-Ok-write_end.ensures)

pub returns-in-Ok-write_end-2 : goal.returns-in-Ok-write_end-2
returns-in-Ok-write_end-2 g c =
    let names = c.or_input.ensures in
    record {
      made = tt;
      fault =
          unless c.in-Err.fault.fault _
          (rw (← names)
          (files-stopped _ c.args.settings.now (progress_view c.new-progress.result)
          (progress_view c.make_files.new.progress) _ _ _ _ _ _ c.in-Err.fault c.new-progress.ensures
          c.in-Err.ensures.fault c.in-Ok-write_end-2.ensures));
    }
