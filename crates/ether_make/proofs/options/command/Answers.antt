use Rattle.std.proofs.Common.{ap, ap₂, sym, ◌≡◌, ◌∙◌}
use Rattle.clap.specs.Words.{app_of, with_rule}
use Rattle.clap.specs.Simple.{app_of_fields}
use Rattle.ether_make.proofs.OptionTableLemmas.{first_app, none_left, table_app, with_options, with_version}
use Rattle.ether_make.specs.OptionTable.{all_options}
use Rattle.ether_make.proofs.options.command.Goals as goal

pub loop-rows-init : goal.loop-rows-init
loop-rows-init c =
    let first : app_of c.version-command.result ≡ first_app =
    ap app_of_fields c.version-command.ensures ∙ ap with_version c.new.ensures.app in
    ap₂ with_options first c.all_options-rows.ensures

pub returns : goal.returns
returns c =
    let all : app_of c.loop-rows.command ≡ with_options first_app all_options =
    sym (none_left (app_of c.loop-rows.command) c.loop-rows.rows.now c.in_default.len_below) ∙ c.loop-rows.invariant in
    c.in_ok-command-2.ensures.shape c.files.ensures.1 ∙ ap₂ with_rule all c.files.ensures.0 ∙ table_app
