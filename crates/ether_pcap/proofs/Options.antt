-- The options of bytes: there is one list of them, and what a reader of it knows on the way.
use Rattle.std.proofs.Common.{◌≡◌, ℕ, zero, suc, ◌+◌, ◌<◌, ◌≤◌, List, [], ◌∷◌, length, drop, refl, sym, subst, ◌∙◌, arith, inl, inr, Some, None, length-drop, rules}
use Rattle.std.specs.Prelude.{◌≢◌, Option, slice_range}
use Rattle.std.proofs.lemmas.Bool.{cases_lt, cases_eq}
use Rattle.ether_pcap.specs.Numbers.{Order, field}
use Rattle.ether_pcap.specs.Options.{OptionValue, BeginsOption, HasOptions, padded, value_of}

pub option_one : (order : Order) (bytes : List ℕ) (o p : OptionValue) → BeginsOption order bytes o
    → BeginsOption order bytes p → o ≡ p
option_one order bytes o p h k = search rules

-- no option of fewer than four bytes, with code 0, or with more bytes than there are

pub none_of_few : (order : Order) (bytes : List ℕ) → length bytes < 4 → (o : OptionValue) → BeginsOption order bytes o
    → ⊥
none_of_few order bytes lt o h = omega (arith, lt, h.whole)

pub none_at_end : (order : Order) (bytes : List ℕ) → field order bytes 0 2 ≡ 0 → (o : OptionValue)
    → BeginsOption order bytes o → ⊥
none_at_end order bytes e o h = h.no_end (sym h.code ∙ e)

pub none_cut : (order : Order) (bytes : List ℕ) → length bytes < 4 + field order bytes 2 4 → (o : OptionValue)
    → BeginsOption order bytes o → ⊥
none_cut order bytes lt o h = omega (arith, lt, h.len, h.whole)

-- ---- what a reader knows: the first option with a code is among those that are left

abbrev pub Agrees : Order → ℕ → (whole rest : List ℕ) → Type 0
Agrees order code whole rest =
    (options : List OptionValue) → HasOptions order whole options
    → (left : List OptionValue) × HasOptions order rest left × (value_of code options ≡ value_of code left)

skipped : (order : Order) (code : ℕ) (rest : List ℕ) (o : OptionValue) (found : Option (List ℕ))
    (left : List OptionValue)
    → BeginsOption order rest o → o.code ≢ code → HasOptions order rest left → found ≡ value_of code left
    → (others : List OptionValue) × HasOptions order (drop (4 + padded (length o.value)) rest) others
    × (found ≡ value_of code others)
skipped order code rest o found [] h other has e = absurd (has o h)
skipped order code rest o found (p ∷ left) h other has e = search rules

pub agrees_next : (order : Order) (code : ℕ) (whole rest : List ℕ) (o : OptionValue) → Agrees order code whole rest
    → BeginsOption order rest o → o.code ≢ code → Agrees order code whole (drop (4 + padded (length o.value)) rest)
agrees_next order code whole rest o agrees h other options has =
    let a = agrees options has in
    skipped order code rest o (value_of code options) a.0 h other a.1 a.2

found_first : (order : Order) (code : ℕ) (rest : List ℕ) (o : OptionValue) (found : Option (List ℕ))
    (left : List OptionValue)
    → BeginsOption order rest o → o.code ≡ code → HasOptions order rest left → found ≡ value_of code left
    → found ≡ Some o.value
found_first order code rest o found [] h is has e = absurd (has o h)
found_first order code rest o found (p ∷ left) h is has e = search rules

pub agrees_found : (order : Order) (code : ℕ) (whole rest : List ℕ) (o : OptionValue) → Agrees order code whole rest
    → BeginsOption order rest o → o.code ≡ code → (options : List OptionValue) → HasOptions order whole options
    → value_of code options ≡ Some o.value
agrees_found order code whole rest o agrees h is options has = grind (arith, found_first)

none_left : (order : Order) (code : ℕ) (rest : List ℕ) (found : Option (List ℕ)) (left : List OptionValue)
    → ((o : OptionValue) → BeginsOption order rest o → ⊥) → HasOptions order rest left → found ≡ value_of code left
    → found ≡ None
none_left order code rest found [] none has e = e
none_left order code rest found (p ∷ left) none has e = absurd (none p has.0)

pub agrees_end : (order : Order) (code : ℕ) (whole rest : List ℕ) → Agrees order code whole rest
    → ((o : OptionValue) → BeginsOption order rest o → ⊥) → (options : List OptionValue)
    → HasOptions order whole options → value_of code options ≡ None
agrees_end order code whole rest agrees none options has = search (rules, none_left)

pub smaller : (order : Order) (rest : List ℕ) (o : OptionValue) → BeginsOption order rest o
    → length (drop (4 + padded (length o.value)) rest) < length rest
smaller order rest o h = let l = length-drop (4 + padded (length o.value)) rest in omega (arith, l, h.whole)

-- ---- there is one list

pub same_options : (order : Order) (bytes : List ℕ) (options others : List OptionValue) → HasOptions order bytes options
    → HasOptions order bytes others → options ≡ others
same_options order bytes [] [] h k = refl
same_options order bytes [] (p ∷ others) h k = absurd (h p k.0)
same_options order bytes (o ∷ options) [] h k = absurd (k o h.0)
same_options order bytes (o ∷ options) (p ∷ others) h k =
    let e = option_one order bytes o p h.0 k.0 in
    let m : HasOptions order (drop (4 + padded (length o.value)) bytes) others =
    subst (λ (v : OptionValue). HasOptions order (drop (4 + padded (length v.value)) bytes) others) (sym e) k.1 in
    let p = same_options order (drop (4 + padded (length o.value)) bytes) options others h.1 m in
    λ i. e i ∷ p i

option_of : Order → List ℕ → OptionValue
option_of order bytes = record { code = field order bytes 0 2; value = slice_range bytes 4 (4 + field order bytes 2 4) }

begins : (order : Order) (bytes : List ℕ) → field order bytes 0 2 ≢ 0 → 4 + field order bytes 2 4 ≤ length bytes
    → BeginsOption order bytes (option_of order bytes)
unfolding option_of
begins order bytes some whole = search rules

abbrev Some_of : Order → List ℕ → Type 0
Some_of order bytes = (options : List OptionValue) × HasOptions order bytes options

step : (order : Order) (bytes : List ℕ)
    → ((o : OptionValue) → BeginsOption order bytes o → Some_of order (drop (4 + padded (length o.value)) bytes))
    → Some_of order bytes
step order bytes more =
    elim (cases_lt (length bytes) 4) [
      | inl lt ↦ ([], none_of_few order bytes lt)
      | inr le ↦ elim (cases_eq (field order bytes 0 2) 0) [
        | inl e ↦ ([], none_at_end order bytes e)
        | inr some ↦ elim (cases_lt (length bytes) (4 + field order bytes 2 4)) [
          | inl lt ↦ ([], none_cut order bytes lt)
          | inr whole ↦ let h =
              begins order bytes some whole in let m =
              more (option_of order bytes) h in (option_of order bytes ∷ m.0, (h, m.1))
        ]
      ]
    ]

within : (fuel : ℕ) (order : Order) (bytes : List ℕ) → length bytes ≤ fuel → Some_of order bytes
within zero order bytes le = ([], none_of_few order bytes (omega arith))
within (suc fuel) order bytes le =
    step order bytes
    (λ o h.
    within fuel order (drop (4 + padded (length o.value)) bytes)
    (let l = smaller order bytes o h in omega (arith, l, le)))

pub some_options : (order : Order) (bytes : List ℕ) → Some_of order bytes
some_options order bytes = within (length bytes) order bytes (omega arith)
