-- What is wrong with words that `clap` refuses.
use Rattle.std.specs.Prelude.{◌≡◌, ◌==◌, ℕ, List, [], ◌∷◌, ◌&&◌, codes, Bool, true, false, not, Option, Some, None, if◌then◌else◌, is_some, length}
use Rattle.std.specs.List.{find, slice_split}
use Rattle.std.specs.Option.{option_map}
use Rattle.std.specs.Str.{bytes_eq}
use Rattle.clap.specs.Words.{Text}
use Rattle.ether_make.specs.OptionTable.{OptionValue, all_options, has_letter, is_word}
use Rattle.ether_make.specs.declared.request.Usage.{Usage}
use Rattle.ether_make.specs.declared.request.Usage.TheVariants as usages

-- the first of options that is written by this name, or by this letter
abbrev pub option_named : (name : Text) → List OptionValue → Option OptionValue
option_named name = find (λ o. is_word o.spelling && bytes_eq o.name name)

abbrev pub option_lettered : (letter : ℕ) → List OptionValue → Option OptionValue
option_lettered letter = find (λ o. has_letter letter o.spelling)

-- whether the value of an option has to be the next word, if there is such an option; its name is all of the word, or a
-- value follows
abbrev pub need_if : (is_all : Bool) → Option OptionValue → Option Bool
need_if is_all = option_map (λ o. o.has_value && is_all)

abbrev pub name_need : (name : Text) → (is_all : Bool) → Option Bool
name_need name is_all = need_if is_all (option_named name all_options)

-- .. if it is a letter
abbrev pub letter_need : (letter : ℕ) → (is_all : Bool) → Option Bool
letter_need letter is_all = need_if is_all (option_lettered letter all_options)

-- .. by the words after `--`: its name, and what `=` (61) divides from it
abbrev pub pieces_need : List Text → Option Bool
pieces_need (name ∷ []) = name_need name true
pieces_need (name ∷ pieces) = name_need name false
pieces_need [] = None

abbrev pub long_need : (text : Text) → Option Bool
long_need text = pieces_need (slice_split (λ b. b == 61) text)

-- .. by what is after a hyphen (45), and after two
abbrev pub long_word_need : (text : Text) → Option Bool
long_word_need [] = Some false
long_word_need (letter ∷ text) = long_need (letter ∷ text)

abbrev pub option_need : (text : Text) → Option Bool
option_need [] = Some false
option_need (letter ∷ text) = if letter == 45 then long_word_need text else letter_need letter (length text == 0)

-- .. and by a word; one that is not an option needs no value
abbrev pub need_of : (word : Text) → Option Bool
need_of [] = Some false
need_of (letter ∷ text) = if letter == 45 then option_need text else Some false

-- a word can be a value: it is `-`, or does not begin with that
abbrev pub is_value : (word : Text) → Bool
is_value (first ∷ letter ∷ text) = not (first == 45)
is_value word = true

abbrev pub begins_with_value : List Text → Bool
begins_with_value [] = false
begins_with_value (word ∷ words) = is_value word

-- the first option that is not known, before a word `--`
abbrev pub unknown_option : List Text → Option Text
unknown_option [] = None
unknown_option (word ∷ words) =
    if bytes_eq word (codes "--") then None else (if is_some (need_of word) then unknown_option words else Some word)

abbrev pub needs : Option Bool → Bool
needs (Some true) = true
needs need = false

-- .. that lacks its value
abbrev pub bare_option : List Text → Option Text
bare_option [] = None
bare_option (word ∷ words) =
    if bytes_eq word (codes "--") then None
    else (if needs (need_of word) && not (begins_with_value words) then Some word else bare_option words)

-- what is wrong with words
abbrev pub IsUsageIn : (words : List Text) → Usage → Type 0
IsUsageIn words (usages.Unknown word) = unknown_option words ≡ Some word.now
IsUsageIn words (usages.NoValue word) = (unknown_option words ≡ None) × (bare_option words ≡ Some word.now)
IsUsageIn words usages.Words = (unknown_option words ≡ None) × (bare_option words ≡ None)
IsUsageIn words usage = ⊥

-- .. after the program's name
abbrev pub IsUsageOf : (words : List Text) → Usage → Type 0
IsUsageOf [] usage = usage ≡ usages.Words
IsUsageOf (name ∷ words) usage = IsUsageIn words usage
