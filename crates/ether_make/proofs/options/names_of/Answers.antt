use Rattle.std.proofs.Common.{rules, ◌∙◌, codes}
use Rattle.clap.specs.Words.{found_of}
use Rattle.clap.proofs.WalkLemmas.{raw_values-rows}
use Rattle.ether_make.proofs.options.names_of.Goals.{in-Some+in_ok-extend_from_slice, in_default}
use Rattle.ether_make.proofs.options.names_of.Goals as goal

pub returns : goal.returns
returns c =
    let found = c.get_strs.ensures ∙ raw_values-rows (found_of c.args.matches.now) (codes "file") in
    elim c.match-get_strs.branch [
      | in-Some+in_ok-extend_from_slice w ↦ rw (← found) (search rules)
      | in_default w ↦ rw (← found) (search rules)
    ]
