-- The words that name a command: those of a mode, alone or with a limit.
use Rattle.std.specs.Prelude.{◌≡◌, ℕ, ◌≤◌, List, [], ◌∷◌, ◌++◌, length, codes, Option, Some, None}
use Rattle.std.specs.Str.Parse.{IsNumeral, digits_value}
use Rattle.ether_text.specs.Tool.Mode.{NamesMode}
use Rattle.ether_text.specs.declared.tool.mode.Mode.{Mode}
use Rattle.ether_text.specs.declared.tool.command.Command.{Command}

-- one to four decimal digits
pub record NamesLimit (word : List ℕ) (limit : ℕ) : Type 0 where
  pub digits : IsNumeral 10 word
  pub few : length word ≤ 4
  pub value : limit ≡ digits_value 10 word

-- the words of a mode; `limit` and its number may follow if there is at least one word
pub data NamesCommand : List (List ℕ) → Mode × Option ℕ → Type 0 where
  plain : (words : List (List ℕ)) (mode : Mode) → NamesMode words mode → NamesCommand words (mode, None)
  limited : (word : List ℕ) (words : List (List ℕ)) (digits : List ℕ) (mode : Mode) (limit : ℕ)
      → NamesMode (word ∷ words) mode
      → NamesLimit digits limit → NamesCommand ((word ∷ words) ++ codes "limit" ∷ digits ∷ []) (mode, Some limit)

abbrev pub NamesNoCommand : List (List ℕ) → Type 0
NamesNoCommand words = (command : Mode × Option ℕ) → ¬ (NamesCommand words command)

-- the command of a mode with a limit, and of a mode alone
abbrev pub limited_to : Mode → ℕ → Command
limited_to mode limit = record { mode = mode; limit = Some limit }

abbrev pub unlimited : Mode → Command
unlimited mode = record { mode = mode; limit = None }
