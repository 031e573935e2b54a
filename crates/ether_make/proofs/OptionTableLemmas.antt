-- The arguments of `clap` that are made of the table of options.
use Rattle.std.proofs.Common.{◌≡◌, ◌<◌, ℕ, List, [], ◌∷◌, length, map, true, codes, refl, arith}
use Rattle.std.specs.Borrow.{Bor}
use Rattle.clap.specs.Words.{App, Shape, new_app, with_rule}
use Rattle.clap.specs.Simple.{on_top}
use Rattle.ether_make.specs.OptionTable.{OptionValue, all_options, option_view, with_option}
use Rattle.ether_make.specs.declared.option_table.OptionRow.{OptionRow}
use Rattle.ether_make.specs.Options.{make_app, file_rule}

-- a command with a version
abbrev pub with_version : App → App
with_version = on_top (λ (s : Shape). record s { has_version = true })

abbrev pub first_app : App
first_app = with_version (new_app (codes "ether_make"))

-- .. with those of options
abbrev pub with_options : App → List OptionValue → App
with_options app [] = app
with_options app (o ∷ os) = with_options (with_option app o) os

-- with those of the table, and names of files, it is the program's
pub table_app : with_rule (with_options first_app all_options) file_rule ≡ make_app
unfolding all_options
table_app = refl

pub none_left : (app : App) (rows : List (OptionRow (Bor (List ℕ)))) → length rows < 1
    → with_options app (map option_view rows) ≡ app
none_left app [] none = refl
none_left app (row ∷ rows) none = absurd (omega arith)
