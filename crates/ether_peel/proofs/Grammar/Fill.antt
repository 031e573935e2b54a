-- The bytes of a fill, and the ether type that they end.
use Rattle.std.proofs.Common.{◌≡◌, ℕ, zero, suc, ◌+◌, ◌-◌, ◌*◌, ◌<◌, ◌≤◌, List, ◌++◌, length, get_or, replicate, refl, sym, ap, ◌∙◌, arith, inl, inr, Bool, true, false, cond, eqb, eq-eqb}
use Rattle.std.specs.Prelude.{slice_range, Option, Some, None, ◌&&◌}
use Rattle.std.proofs.lemmas.Bool.{cases_lt, cases_eq, ne_eqb}
use Rattle.std.proofs.lemmas.List.{length-append, length-replicate, get_or_append_left, get_or-append_right, get_or-replicate, get_or_past}
use Rattle.etherparse.specs.Bytes.{IsBytes, number}
use Rattle.etherparse.proofs.ArrayElements.{number-two}
use Rattle.ether_peel.specs.Grammar.Expectation.{announced_by}
use Rattle.ether_peel.specs.Grammar.Completion.{begins_vlan_type, first_filled, fill}

-- ---- its bytes

zeros : (n i : ℕ) → get_or {A = ℕ} (replicate n 0) i 0 ≡ 0
zeros n i =
    elim (cases_lt i n) [
      | inl lt ↦ get_or-replicate n i 0 0 lt
      | inr le ↦ get_or_past (replicate n 0) i 0
          (omega (arith, length-replicate {A = ℕ} n 0))
    ]

pub length-fill : (begun : List ℕ) (total : ℕ) (place : Option ℕ) → length begun < total
    → length begun + length (fill begun total place) ≡ total
length-fill begun total place lt = let e = length-replicate {A = ℕ} (total - length begun - 1) 0 in omega arith

first_below : (begun : List ℕ) (place : Option ℕ) → first_filled begun place < 256
first_below begun None = omega arith
first_below begun (Some place) =
    elim (eqb (length begun) (place + 1) && begins_vlan_type (get_or begun place 0)) as (λ (c : Bool). cond c 1 0 < 256)
    [ true ↦ omega arith | false ↦ omega arith ]

pub IsBytes-fill : (begun : List ℕ) (total : ℕ) (place : Option ℕ) → IsBytes (fill begun total place)
IsBytes-fill begun total place zero = first_below begun place
IsBytes-fill begun total place (suc i) = let e = zeros (total - length begun - 1) i in omega arith

later_zero : (begun : List ℕ) (total : ℕ) (place : Option ℕ) (i : ℕ) → 0 < i → get_or (fill begun total place) i 0 ≡ 0
later_zero begun total place zero lt = absurd (omega arith)
later_zero begun total place (suc i) lt = zeros (total - length begun - 1) i

all_zero : (begun : List ℕ) (total : ℕ) (place : Option ℕ) (i : ℕ) → first_filled begun place ≡ 0
    → get_or (fill begun total place) i 0 ≡ 0
all_zero begun total place zero e = e
all_zero begun total place (suc i) e = zeros (total - length begun - 1) i

-- a byte that was not there counts as 0 already
pub same_byte : (begun : List ℕ) (total i : ℕ) → get_or (begun ++ fill begun total None) i 0 ≡ get_or begun i 0
same_byte begun total i =
    elim (cases_lt i (length begun)) [
      | inl lt ↦ get_or_append_left begun (fill begun total None) 0 i lt
      | inr le ↦ get_or-append_right begun (fill begun total None) (length begun) i 0 refl le
          ∙ all_zero begun total None (i - length begun) refl ∙ sym (get_or_past begun i 0 le)
    ]

-- ---- the ether type

none_by : (t : ℕ) → (t ≡ 0x8100 → ⊥) → (t ≡ 0x88A8 → ⊥) → (t ≡ 0x9100 → ⊥) → (t ≡ 0x88E5 → ⊥) → (t ≡ 0x0806 → ⊥)
    → announced_by t ≡ None
none_by t a b c d e =
    rw (ne_eqb t 0x8100 a, ne_eqb t 0x88A8 b, ne_eqb t 0x9100 c, ne_eqb t 0x88E5 d, ne_eqb t 0x0806 e) refl

-- the last byte of an ether type is filled so that it announces nothing
last_announces_nothing : (b : ℕ) → announced_by (b * 256 + cond (begins_vlan_type b) 1 0) ≡ None
last_announces_nothing b =
    elim (cases_eq b 0x81) [
      | inl e ↦ rw e refl
      | inr m ↦ elim (cases_eq b 0x91) [
        | inl e ↦ rw e refl
        | inr n ↦
            let f : begins_vlan_type b ≡ false = rw (ne_eqb b 0x81 m, ne_eqb b 0x91 n) refl in
            let g : b * 256 + cond (begins_vlan_type b) 1 0 ≡ b * 256 =
            ap (λ (c : Bool). b * 256 + cond c 1 0) f ∙ omega arith in
            ap announced_by g
            ∙ none_by (b * 256) (λ e. omega arith) (λ e. omega arith) (λ e. omega arith) (λ e. omega arith)
            (λ e. omega arith)
      ]
    ]

-- so an ether type that a fill ends announces nothing
pub type_announces_nothing : (begun : List ℕ) (total from : ℕ) → length begun < total → from + 2 ≤ total
    → length begun < from + 2
    → announced_by (number (slice_range (begun ++ fill begun total (Some from)) from (from + 2))) ≡ None
type_announces_nothing begun total from lt le few =
    let f = fill begun total (Some from) in
    let len = length-fill begun total (Some from) lt in
    let two = number-two from (begun ++ f) (omega (arith, length-append begun f)) in
    let last = get_or-append_right begun f (length begun) (from + 1) 0 refl (omega arith) in
    elim (cases_eq (length begun) (from + 1)) [
      | inl e ↦
          let high : get_or (begun ++ f) from 0 ≡ get_or begun from 0 =
          get_or_append_left begun f 0 from (omega arith) in
          let first : from + 1 - length begun ≡ 0 = omega arith in
          let low : get_or (begun ++ f) (from + 1) 0 ≡ cond (begins_vlan_type (get_or begun from 0)) 1 0 =
          last ∙ ap (λ (i : ℕ). get_or f i 0) first
          ∙ ap (λ (c : Bool). cond (c && begins_vlan_type (get_or begun from 0)) 1 0)
          (eq-eqb (length begun) (from + 1) e) in
          let is : number (slice_range (begun ++ f) from (from + 2))
          ≡ get_or begun from 0 * 256 + cond (begins_vlan_type (get_or begun from 0)) 1 0 = omega arith in
          ap announced_by is ∙ last_announces_nothing (get_or begun from 0)
      | inr ne ↦
          let first : first_filled begun (Some from) ≡ 0 =
          ap (λ (c : Bool). cond (c && begins_vlan_type (get_or begun from 0)) 1 0)
          (ne_eqb (length begun) (from + 1) ne) in
          let high : get_or (begun ++ f) from 0 ≡ 0 =
          get_or-append_right begun f (length begun) from 0 refl (omega arith)
          ∙ all_zero begun total (Some from) (from - length begun) first in
          let low : get_or (begun ++ f) (from + 1) 0 ≡ 0 =
          last ∙ later_zero begun total (Some from) (from + 1 - length begun) (omega arith) in
          let is : number (slice_range (begun ++ f) from (from + 2)) ≡ 0 = omega arith in
          ap announced_by is
    ]
