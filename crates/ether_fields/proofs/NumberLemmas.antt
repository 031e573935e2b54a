-- No two fields have one number: this is computed over the table.
use Rattle.std.proofs.Common.{◌≡◌, ℕ, zero, suc, List, [], ◌∷◌, Bool, true, false, not, ◌&&◌, ◌||◌, Option, Some, None, refl, ap, sym, subst, ◌∙◌, arith, eq-eqb, ne_eqb, inl, inr}
use Rattle.std.specs.Prelude.{nat_eq, if◌then◌else◌}
use Rattle.std.specs.List.{IsAmong}
use Rattle.std.specs.Option.{option_map, option_or}
use Rattle.std.proofs.lemmas.Bool.Decides.{eqb_tells}
use Rattle.ether_fields.specs.Fields.{field_numbered, numbered_among, row_numbered, section_rows, sections}
use Rattle.ether_fields.specs.Laws.{NumbersAreApart}
use Rattle.ether_fields.specs.Rows.{Row}
use Rattle.ether_fields.specs.declared.section.Section.{Section}
use Rattle.ether_fields.specs.declared.section.Section.TheVariants.{Frame, Eth, Sll, Sll2, Vlan, Macsec, Arp, Headers, Rest, Fault}

-- ---- what is found has the number

abbrev IsOf : ℕ → Section × Row → Type 0
IsOf number p = IsAmong (section_rows p.0) p.1 × (p.1.number ≡ number)

row_found : (number : ℕ) (rs : List Row) (r : Row) → row_numbered number rs ≡ Some r
    → IsAmong rs r × (r.number ≡ number)
row_found number [] r is = cc
row_found number (q ∷ qs) r is = elim (eqb_tells q.number number) [
  | inl same_one ↦
      let first : Some q ≡ Some r =
      sym (ap (λ b. if b then Some q else row_numbered number qs) same_one.0) ∙ is in
      let same : q ≡ r = cc in ((zero, (omega arith, sym same)), ap (λ (p : Row). p.number) (sym same) ∙ same_one.1)
  | inr other ↦
      let later = row_found number qs r (sym (ap (λ b. if b then Some q else row_numbered number qs) other.0) ∙ is) in
      ((suc later.0.0, (let lt = later.0.1.0 in omega (arith, lt), later.0.1.1)), later.1)
]

among_found : (number : ℕ) (ss : List Section) (s : Section) (r : Row) → numbered_among number ss ≡ Some (s, r)
    → IsOf number (s, r)
among_found number [] s r is = cc
among_found number (t ∷ ss) s r is =
    by (row_numbered number (section_rows t)) refl (among_found number ss s r) is
  where
    by : (o : Option Row) → o ≡ row_numbered number (section_rows t)
        → (numbered_among number ss ≡ Some (s, r) → IsOf number (s, r))
        → option_or (option_map (λ q. (t, q)) o) (numbered_among number ss) ≡ Some (s, r) → IsOf number (s, r)
    by None none later is = later is
    by (Some q) some later is =
        let same : (t, q) ≡ (s, r) = cc in
        subst (IsOf number) same (row_found number (section_rows t) q (sym some))

-- ---- numbers that occur once

-- no row has the number
abbrev is_free : ℕ → List Row → Bool
is_free number [] = true
is_free number (r ∷ rs) = not (nat_eq r.number number) && is_free number rs

-- .. of these sections
abbrev are_free : ℕ → List Section → Bool
are_free number [] = true
are_free number (s ∷ ss) = is_free number (section_rows s) && are_free number ss

-- the number of each row is 0, or neither that of a later row nor of one of these sections
abbrev rows_apart : List Row → List Section → Bool
rows_apart [] ss = true
rows_apart (r ∷ rs) ss =
    (nat_eq r.number 0 || (is_free r.number rs && are_free r.number ss)) && rows_apart rs ss

abbrev sections_apart : List Section → Bool
sections_apart [] = true
sections_apart (s ∷ ss) = rows_apart (section_rows s) ss && sections_apart ss

all_apart : sections_apart sections ≡ true
all_apart = refl

both : (a b : Bool) → (a && b) ≡ true → (a ≡ true) × (b ≡ true)
both true b holds = (refl, holds)
both false b holds = cc

second : (a b : Bool) → a ≡ false → (a || b) ≡ true → b ≡ true
second true b other holds = cc
second false b other holds = holds

not_both : (b : Bool) → not b ≡ true → b ≡ true → ⊥
not_both true isnt is = cc
not_both false isnt is = cc

-- ---- a free number is that of no row

free_none : (number : ℕ) (rs : List Row) (r : Row) → is_free number rs ≡ true → IsAmong rs r → r.number ≡ number → ⊥
free_none number [] r free (i, (lt, same)) is = omega (arith, lt)
free_none number (q ∷ qs) r free (zero, (lt, same)) is =
    not_both _ (both _ _ free).0 (eq-eqb _ _ (ap (λ (p : Row). p.number) (sym same) ∙ is))
free_none number (q ∷ qs) r free (suc i, (lt, same)) is =
    free_none number qs r (both _ _ free).1 (i, (omega (arith, lt), same)) is

frees_none : (number : ℕ) (ss : List Section) (s : Section) (r : Row) → are_free number ss ≡ true → IsAmong ss s
    → IsAmong (section_rows s) r → r.number ≡ number → ⊥
frees_none number [] s r free (i, (lt, same)) among is = omega (arith, lt)
frees_none number (t ∷ ts) s r free (zero, (lt, same)) among is =
    free_none number (section_rows t) r (both _ _ free).0
    (subst (λ (u : Section). IsAmong (section_rows u) r) same among) is
frees_none number (t ∷ ts) s r free (suc i, (lt, same)) among is =
    frees_none number ts s r (both _ _ free).1 (i, (omega (arith, lt), same)) among is

-- ---- the row with the number is found

-- what a row is apart from
later : (rs : List Row) (q : Row) (ss : List Section) (number : ℕ) → rows_apart (q ∷ rs) ss ≡ true
    → q.number ≡ number → ¬ (number ≡ 0) → (is_free number rs ≡ true) × (are_free number ss ≡ true)
later rs q ss number apart is given =
    let zero_not : ¬ (q.number ≡ 0) = λ none. given (sym is ∙ none) in
    let free = second _ _ (ne_eqb _ _ zero_not) (both _ _ apart).0 in
    subst (λ (n : ℕ). (is_free n rs ≡ true) × (are_free n ss ≡ true)) is (both _ _ free)

row_one : (number : ℕ) (rs : List Row) (ss : List Section) (r : Row) → rows_apart rs ss ≡ true → ¬ (number ≡ 0)
    → IsAmong rs r → r.number ≡ number → row_numbered number rs ≡ Some r
row_one number [] ss r apart given (i, (lt, same)) is = absurd (omega (arith, lt))
row_one number (q ∷ qs) ss r apart given (zero, (lt, same)) is =
    ap (λ b. if b then Some q else row_numbered number qs)
    (eq-eqb _ _ (ap (λ (p : Row). p.number) (sym same) ∙ is)) ∙ ap (λ (p : Row). Some p) (sym same)
row_one number (q ∷ qs) ss r apart given (suc i, (lt, same)) is =
    let among : IsAmong qs r = (i, (omega (arith, lt), same)) in
    elim (eqb_tells q.number number) [
      | inl same_one ↦ absurd (free_none number qs r (later qs q ss number apart same_one.1 given).0 among is)
      | inr other ↦
          ap (λ b. if b then Some q else row_numbered number qs) other.0
          ∙ row_one number qs ss r (both _ _ apart).1 given among is
    ]

-- the number of a row is free in the sections
row_free : (number : ℕ) (rs : List Row) (ss : List Section) (r : Row) → rows_apart rs ss ≡ true → ¬ (number ≡ 0)
    → IsAmong rs r → r.number ≡ number → are_free number ss ≡ true
row_free number [] ss r apart given (i, (lt, same)) is = absurd (omega (arith, lt))
row_free number (q ∷ qs) ss r apart given (zero, (lt, same)) is =
    (later qs q ss number apart (ap (λ (p : Row). p.number) (sym same) ∙ is) given).1
row_free number (q ∷ qs) ss r apart given (suc i, (lt, same)) is =
    row_free number qs ss r (both _ _ apart).1 given (i, (omega (arith, lt), same)) is

among_one : (number : ℕ) (ss : List Section) (s : Section) (r : Row) → sections_apart ss ≡ true → ¬ (number ≡ 0)
    → IsAmong ss s → IsAmong (section_rows s) r → r.number ≡ number → numbered_among number ss ≡ Some (s, r)
among_one number [] s r apart given (i, (lt, same)) among is = absurd (omega (arith, lt))
among_one number (t ∷ ts) s r apart given (zero, (lt, same)) among is =
    subst (λ (u : Section). numbered_among number (t ∷ ts) ≡ Some (u, r)) (sym same)
    (ap (λ (o : Option Row). option_or (option_map (λ q. (t, q)) o) (numbered_among number ts))
    (row_one number (section_rows t) ts r (both _ _ apart).0 given
    (subst (λ (u : Section). IsAmong (section_rows u) r) same among) is))
among_one number (t ∷ ts) s r apart given (suc i, (lt, same)) among is =
    by (row_numbered number (section_rows t)) refl
    (among_one number ts s r (both _ _ apart).1 given (i, (omega (arith, lt), same)) among is)
  where
    place : IsAmong ts s
    place = (i, (omega (arith, lt), same))

    by : (o : Option Row) → o ≡ row_numbered number (section_rows t) → numbered_among number ts ≡ Some (s, r)
        → option_or (option_map (λ q. (t, q)) o) (numbered_among number ts) ≡ Some (s, r)
    by None none later = later
    by (Some q) some later =
        let found = row_found number (section_rows t) q (sym some) in
        absurd (frees_none number ts s r
        (row_free number (section_rows t) ts q (both _ _ apart).0 given found.0 found.1) place among is)

is_section : (s : Section) → IsAmong sections s
is_section Frame = (0, (omega arith, refl))
is_section Eth = (1, (omega arith, refl))
is_section Sll = (2, (omega arith, refl))
is_section Sll2 = (3, (omega arith, refl))
is_section Vlan = (4, (omega arith, refl))
is_section Macsec = (5, (omega arith, refl))
is_section Arp = (6, (omega arith, refl))
is_section Headers = (7, (omega arith, refl))
is_section Rest = (8, (omega arith, refl))
is_section Fault = (9, (omega arith, refl))

-- ---- the law

pub numbers_are_apart : NumbersAreApart
unfolding field_numbered
numbers_are_apart = record {
  found = λ number s r is. elim (eqb_tells number 0) [
    | inl same_one ↦
        let none : None ≡ Some (s, r) =
        sym (ap (λ b. if b then None else numbered_among number sections) same_one.0) ∙ is in cc
    | inr other ↦
        let given = among_found number sections s r
        (sym (ap (λ b. if b then None else numbered_among number sections) other.0) ∙ is) in
        record { is_row = given.0; number_is = given.1; is_given = other.1 }
  ];
  one = λ number s r has.
      ap (λ b. if b then None else numbered_among number sections) (ne_eqb _ _ has.is_given)
      ∙ among_one number sections s r all_apart has.is_given (is_section s) has.is_row has.number_is;
}
