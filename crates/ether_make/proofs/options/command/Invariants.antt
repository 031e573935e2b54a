use Rattle.std.proofs.Common.{◌≡◌, length, map}
use Rattle.clap.specs.Words.{app_of}
use Rattle.ether_make.proofs.OptionTableLemmas.{first_app, with_options}
use Rattle.ether_make.specs.OptionTable.{all_options, option_view}
use Rattle.ether_make.proofs.options.command.Given as goal

abbrev pub invariant-loop-rows : goal.invariant-loop-rows
invariant-loop-rows l = with_options (app_of l.command) (map option_view l.rows) ≡ with_options first_app all_options

abbrev pub decreases-loop-rows : goal.decreases-loop-rows
decreases-loop-rows l = length l.rows
