use Rattle.std.proofs.Common.{◌≡◌, [], codes, false, true, refl, rules}
use Rattle.std.proofs.KnownBytes.{Appends-nil}
use Rattle.std.specs.Str.{bytes_eq}
use Rattle.ether_make.specs.InputFiles.{closed, file, input}
use Rattle.ether_make.specs.Serial.{progress_view}
use Rattle.ether_make.proofs.FileLemmas.{file-made, input-made}
use Rattle.ether_make.proofs.ProgramLemmas.{continues-nothing}
use Rattle.ether_make.proofs.input_files.make_file.Goals as goal

pub returns-in-Ok-clause-made : goal.returns-in-Ok-clause-made
returns-in-Ok-clause-made g c =
    let is : bytes_eq c.args.name.now (codes "-") ≡ true = search rules in
    input-made _ _ _ (progress_view c.args.progress.now) c.args.name.now _ _ _ _ is c.in-Ok.ensures.made

pub returns-in-Err-clause-fault : goal.returns-in-Err-clause-fault
returns-in-Err-clause-fault g c =
    let is : bytes_eq c.args.name.now (codes "-") ≡ true = search rules in
    record { named = rw is refl; stops = input _ _ c.in-Err.fault is c.in-Err.ensures.fault }

pub returns-in-Err-open_named-clause-fault : goal.returns-in-Err-open_named-clause-fault
returns-in-Err-open_named-clause-fault g c =
    let is : bytes_eq c.args.name.now (codes "-") ≡ false = search rules in
    record {
      named = rw is refl;
      stops = closed _ c.in-Err-open_named.error [] is (continues-nothing c.args.settings.now
          (progress_view c.args.progress.now)) (Appends-nil _);
    }

pub returns-in-Ok-make_lines-clause-made : goal.returns-in-Ok-make_lines-clause-made
returns-in-Ok-make_lines-clause-made g c =
    let is : bytes_eq c.args.name.now (codes "-") ≡ false = search rules in
    file-made _ _ _ (progress_view c.args.progress.now) c.args.name.now _ _ _ _ _ is c.in-Ok-open_named.ensures
    c.in-Ok-make_lines.ensures.made

pub returns-clause-fault : goal.returns-clause-fault
returns-clause-fault g c =
    let is : bytes_eq c.args.name.now (codes "-") ≡ false = search rules in
    record {
      named = rw is refl;
      stops = file _ _ _ c.in-Err-make_lines.fault is c.in-Ok-open_named.ensures c.in-Err-make_lines.ensures.fault;
    }
