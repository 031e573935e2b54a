-- The bits of a list of words.
use Rattle.std.proofs.Common.{◌≡◌, ℕ, zero, suc, ◌-◌, ◌*◌, ◌/◌, ◌%◌, ◌^◌, ◌<◌, ◌≢◌, min, max, Bool, true, false, not, ◌&&◌, ◌||◌, nat_eq, List, [], ◌∷◌, length, get_or, set, bit_and, bit_or, inl, inr, refl, sym, ap, ◌∙◌, arith, get_or-set_other, get_or-set_same}
use Rattle.std.proofs.lemmas.Bool.{cases_eq, eq-eqb, ne_eqb}
use Rattle.std.proofs.lemmas.Nat.Bits.{bit_at-lt, bit_at_and, bit_at_or, bit_at_not, bit_at_set_same, bit_at_set_other, bit_at_clear_same, bit_at_clear_other}
use Rattle.std.specs.Int.{w64, bit_at, bit_not}

-- whether the bit is set that is at a place of all words
abbrev pub has_at : List ℕ → ℕ → Bool
has_at words v = nat_eq (get_or words (v / 64) 0 / 2 ^ (v % 64) % 2) 1

-- ---- one word changes

changed : (words : List ℕ) (id v w : ℕ) (b : Bool) (answer : Bool → Bool → Bool) → id / 64 < length words
    → ((x : Bool) → answer true x ≡ b) → ((x : Bool) → answer false x ≡ x)
    → nat_eq (w / 2 ^ (id % 64) % 2) 1 ≡ b
    → ((k : ℕ) → k < 64 → k ≢ id % 64 → w / 2 ^ k % 2 ≡ get_or words (id / 64) 0 / 2 ^ k % 2)
    → has_at (set words (id / 64) w) v ≡ answer (nat_eq v id) (has_at words v)
changed words id v w b answer lt at_true at_false same others = elim (cases_eq v id) [
  | inl e ↦
      let here : has_at (set words (id / 64) w) v ≡ b =
      (λ i. has_at (set words (id / 64) w) (e i))
      ∙ ap (λ (x : ℕ). nat_eq (x / 2 ^ (id % 64) % 2) 1) (get_or-set_same words (id / 64) w 0 lt) ∙ same in
      here ∙ sym (ap (λ (t : Bool). answer t (has_at words v)) (eq-eqb v id e) ∙ at_true (has_at words v))
  | inr ne ↦
      let rest : has_at (set words (id / 64) w) v ≡ has_at words v = elim (cases_eq (v / 64) (id / 64)) [
        | inl e ↦
            let other : v % 64 ≢ id % 64 = λ m. ne (omega (arith, m, e)) in
            ap (λ (i : ℕ). nat_eq (get_or (set words (id / 64) w) i 0 / 2 ^ (v % 64) % 2) 1) e
            ∙ ap (λ (x : ℕ). nat_eq (x / 2 ^ (v % 64) % 2) 1) (get_or-set_same words (id / 64) w 0 lt)
            ∙ ap (λ (x : ℕ). nat_eq x 1) (others (v % 64) (omega arith) other)
            ∙ sym (ap (λ (i : ℕ). nat_eq (get_or words i 0 / 2 ^ (v % 64) % 2) 1) e)
        | inr apart ↦
            ap (λ (x : ℕ). nat_eq (x / 2 ^ (v % 64) % 2) 1) (get_or-set_other words (id / 64) (v / 64) w 0 apart)
      ] in
      rest ∙ sym (ap (λ (t : Bool). answer t (has_at words v)) (ne_eqb v id ne) ∙ at_false (has_at words v))
]

pub has_more : (words : List ℕ) (id v : ℕ) → id / 64 < length words
    → has_at (set words (id / 64) (bit_or (get_or words (id / 64) 0) (1 * 2 ^ (id % 64) % 2 ^ 64))) v
    ≡ (nat_eq v id || has_at words v)
has_more words id v lt =
    let old = get_or words (id / 64) 0 in
    let k : id % 64 < 64 = omega arith in
    changed words id v _ true (λ t x. t || x) lt (λ x. refl) (λ x. refl)
    (ap (λ (x : ℕ). nat_eq x 1) (bit_at_set_same w64 old (id % 64) k))
    (λ j lt ne. bit_at_set_other w64 old (id % 64) k j ne)

pub has_less : (words : List ℕ) (id v : ℕ) → id / 64 < length words
    → has_at (set words (id / 64) (bit_and (get_or words (id / 64) 0) (2 ^ 64 - 1 - 1 * 2 ^ (id % 64) % 2 ^ 64))) v
    ≡ (not (nat_eq v id) && has_at words v)
has_less words id v lt =
    let old = get_or words (id / 64) 0 in
    let k : id % 64 < 64 = omega arith in
    changed words id v _ false (λ t x. not t && x) lt (λ x. refl) (λ x. refl)
    (ap (λ (x : ℕ). nat_eq x 1) (bit_at_clear_same w64 old (id % 64) k))
    (λ j lt ne. bit_at_clear_other w64 old (id % 64) k j lt ne)

-- ---- four words are joined with four others

-- the words of f, one by one
abbrev pub joined : (f : ℕ → ℕ → ℕ) → (words others : List ℕ) → List ℕ
joined f words others =
    f (get_or words 0 0) (get_or others 0 0) ∷ f (get_or words 1 0) (get_or others 1 0)
    ∷ f (get_or words 2 0) (get_or others 2 0) ∷ f (get_or words 3 0) (get_or others 3 0) ∷ []

word_of : (f : ℕ → ℕ → ℕ) (words others : List ℕ) (i : ℕ) → i < 4
    → get_or (joined f words others) i 0 ≡ f (get_or words i 0) (get_or others i 0)
word_of f words others zero lt = refl
word_of f words others (suc zero) lt = refl
word_of f words others (suc (suc zero)) lt = refl
word_of f words others (suc (suc (suc zero))) lt = refl
word_of f words others (suc (suc (suc (suc i)))) lt = absurd (omega (arith, lt))

joined_at : (f : ℕ → ℕ → ℕ) (answer : Bool → Bool → Bool) (words others : List ℕ) (v : ℕ) → v < 256
    → nat_eq (bit_at (f (get_or words (v / 64) 0) (get_or others (v / 64) 0)) (v % 64)) 1
    ≡ answer (has_at words v) (has_at others v)
    → has_at (joined f words others) v ≡ answer (has_at words v) (has_at others v)
joined_at f answer words others v lt is =
    ap (λ (w : ℕ). nat_eq (w / 2 ^ (v % 64) % 2) 1) (word_of f words others (v / 64) (omega (arith, lt))) ∙ is

min_is : (m n : ℕ) → m < 2 → n < 2 → nat_eq (min m n) 1 ≡ (nat_eq m 1 && nat_eq n 1)
min_is zero zero lt less = refl
min_is zero (suc zero) lt less = refl
min_is (suc zero) zero lt less = refl
min_is (suc zero) (suc zero) lt less = refl
min_is m (suc (suc n)) lt less = absurd (omega (arith, less))
min_is (suc (suc m)) n lt less = absurd (omega (arith, lt))

max_is : (m n : ℕ) → m < 2 → n < 2 → nat_eq (max m n) 1 ≡ (nat_eq m 1 || nat_eq n 1)
max_is zero zero lt less = refl
max_is zero (suc zero) lt less = refl
max_is (suc zero) zero lt less = refl
max_is (suc zero) (suc zero) lt less = refl
max_is m (suc (suc n)) lt less = absurd (omega (arith, less))
max_is (suc (suc m)) n lt less = absurd (omega (arith, lt))

not_is : (n : ℕ) → n < 2 → nat_eq (1 - n) 1 ≡ not (nat_eq n 1)
not_is zero less = refl
not_is (suc zero) less = refl
not_is (suc (suc n)) less = absurd (omega (arith, less))

pub has_both : (words others : List ℕ) (v : ℕ) → v < 256
    → has_at (joined bit_and words others) v ≡ (has_at words v && has_at others v)
has_both words others v lt =
    let w = get_or words (v / 64) 0 in
    let x = get_or others (v / 64) 0 in
    joined_at bit_and (λ a b. a && b) words others v lt
    (ap (λ (n : ℕ). nat_eq n 1) (bit_at_and w x (v % 64))
    ∙ min_is (bit_at w (v % 64)) (bit_at x (v % 64)) (bit_at-lt w (v % 64)) (bit_at-lt x (v % 64)))

pub has_either : (words others : List ℕ) (v : ℕ) → v < 256
    → has_at (joined bit_or words others) v ≡ (has_at words v || has_at others v)
has_either words others v lt =
    let w = get_or words (v / 64) 0 in
    let x = get_or others (v / 64) 0 in
    joined_at bit_or (λ a b. a || b) words others v lt
    (ap (λ (n : ℕ). nat_eq n 1) (bit_at_or w x (v % 64))
    ∙ max_is (bit_at w (v % 64)) (bit_at x (v % 64)) (bit_at-lt w (v % 64)) (bit_at-lt x (v % 64)))

pub has_first : (words others : List ℕ) (v : ℕ) → v < 256 → get_or others (v / 64) 0 < 2 ^ 64
    → has_at (joined (λ a b. bit_and a (bit_not w64 b)) words others) v ≡ (has_at words v && not (has_at others v))
has_first words others v lt fits =
    let w = get_or words (v / 64) 0 in
    let x = get_or others (v / 64) 0 in
    let k : v % 64 < 64 = omega arith in
    joined_at (λ a b. bit_and a (bit_not w64 b)) (λ a b. a && not b) words others v lt
    (ap (λ (n : ℕ). nat_eq n 1) (bit_at_and w (bit_not w64 x) (v % 64))
    ∙ min_is (bit_at w (v % 64)) (bit_at (bit_not w64 x) (v % 64)) (bit_at-lt w (v % 64))
    (bit_at-lt (bit_not w64 x) (v % 64))
    ∙ ap (λ (b : Bool). nat_eq (bit_at w (v % 64)) 1 && b)
    (ap (λ (n : ℕ). nat_eq n 1) (bit_at_not w64 x (v % 64) fits k)
    ∙ not_is (bit_at x (v % 64)) (bit_at-lt x (v % 64))))
