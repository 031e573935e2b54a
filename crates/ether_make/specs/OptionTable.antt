-- The table of options: how each is written, whether it has a value, and which argument of `clap` it is.
use Rattle.std.specs.Prelude.{ℕ, List, Bool, true, false, Some, ◌==◌, if◌then◌else◌, is_some, map}
use Rattle.std.specs.Borrow.{Bor}
use Rattle.clap.specs.Words.{App, Rule, Text, new_rule, with_rule}
use Rattle.clap.specs.declared.builder.action.ArgAction.TheVariants.{Set, SetTrue}
use Rattle.ether_make.specs.declared.option_table.OptionRow.{OptionRow}
use Rattle.ether_make.specs.declared.option_table.Spelling.{Spelling}
use Rattle.ether_make.specs.declared.option_table.Spelling.TheVariants.{Name, Letter, Both}
use Rattle.ether_make.specs.declared.option_table.TheConstants.{OPTIONS}

-- an option, without what the help says of it
pub record OptionValue : Type 0 where
  pub name : Text
  pub spelling : Spelling
  pub has_value : Bool

abbrev pub option_view : OptionRow (Bor (List ℕ)) → OptionValue
option_view row = record { name = row.name.now; spelling = row.spelling; has_value = is_some row.value }

-- the options of the table, in which a text has a type of its own
unfoldable pub all_options : List OptionValue
all_options =
    map (λ row. record { name = row.name.now; spelling = row.spelling; has_value = is_some row.value }) OPTIONS

-- it is written by its name
abbrev pub is_word : Spelling → Bool
is_word (Letter letter) = false
is_word spelling = true

-- .. by this letter
abbrev pub has_letter : ℕ → Spelling → Bool
has_letter it Name = false
has_letter it (Letter letter) = letter == it
has_letter it (Both letter) = letter == it

-- `clap` adds it
abbrev pub is_added : Spelling → Bool
is_added (Both letter) = true
is_added spelling = false

-- an argument that is written so
abbrev pub spelled : Spelling → (name : Text) → Rule → Rule
spelled Name name rule = record rule { long = Some name }
spelled (Letter letter) name rule = record rule { short = Some letter }
spelled (Both letter) name rule = record rule { short = Some letter; long = Some name }

-- the argument of an option
abbrev pub option_rule : OptionValue → Rule
option_rule o =
    spelled o.spelling o.name (record (new_rule o.name) { action = Some (if o.has_value then Set else SetTrue) })

-- a command with that argument, unless `clap` adds it
abbrev pub with_option : App → OptionValue → App
with_option app o = if is_added o.spelling then app else with_rule app (option_rule o)
