-- The words that name a mode.
use Rattle.std.specs.Prelude.{◌≡◌, ℕ, ◌+◌, ◌*◌, ◌^◌, List, [], ◌∷◌, length, codes, Some}
use Rattle.hex.specs.Hex.{hex_digit_value}
use Rattle.ether_text.specs.declared.tool.mode.Mode.{Mode}
use Rattle.ether_text.specs.declared.tool.mode.Mode.TheVariants.{Eth, Fcs, Sll, EtherType, Feed}

-- hexadecimal digits of either case name a number, the most significant digit first
abbrev pub NamesNumber : (digits : List ℕ) → (number : ℕ) → Type 0
NamesNumber [] number = number ≡ 0
NamesNumber (digit ∷ digits) number =
    (value : ℕ) × (rest : ℕ) × (hex_digit_value digit ≡ Some value) × NamesNumber digits rest
    × (number ≡ value * 16 ^ length digits + rest)

-- exactly four digits
pub record NamesType (word : List ℕ) (number : ℕ) : Type 0 where
  pub four : length word ≡ 4
  pub named : NamesNumber word number

-- no word, one word, or `type` and four digits
pub data NamesMode : List (List ℕ) → Mode → Type 0 where
  no_word : NamesMode [] Eth
  eth : NamesMode (codes "eth" ∷ []) Eth
  fcs : NamesMode (codes "fcs" ∷ []) Fcs
  sll : NamesMode (codes "sll" ∷ []) Sll
  feed : NamesMode (codes "feed" ∷ []) Feed
  ether_type : (digits : List ℕ) (number : ℕ) → NamesType digits number
      → NamesMode (codes "type" ∷ digits ∷ []) (EtherType (record { 0 = number }))

abbrev pub NamesNoMode : List (List ℕ) → Type 0
NamesNoMode words = (mode : Mode) → ¬ (NamesMode words mode)
