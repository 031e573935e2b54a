-- The fields of a header, and elements that are put one after the other.
use Rattle.std.proofs.Common.{◌≡◌, ℕ, suc, ◌+◌, ◌*◌, ◌≤◌, List, [], ◌∷◌, ◌++◌, length, take, drop, set, ap, ◌∙◌, arith, rules}
use Rattle.std.proofs.lemmas.List.{append_assoc, append-nil, length-append, length-map}
use Rattle.etherparse.specs.Header.{Header, header_len}
use Rattle.etherparse.specs.Header as headers
use Rattle.ether_c.specs.declared.ether_field.EtherField.{EtherField}
use Rattle.ether_fields.specs.Units.{header_fields, trailer_fields}
use Rattle.ether_c.specs.FieldViews.{put_all, c_placed_fields}
use Rattle.ether_c.proofs.UnitsGiven.{Holds, put_next}

-- ---- elements that are put one after the other

pub put_all-append : (xs ys old : List EtherField) (at : ℕ)
    → put_all (put_all old at xs) (at + length xs) ys ≡ put_all old at (xs ++ ys)
put_all-append [] ys old at = let e : at + 0 ≡ at = omega arith in ap (λ (k : ℕ). put_all old k ys) e
put_all-append (x ∷ xs) ys old at =
    let e : at + suc (length xs) ≡ at + 1 + length xs = omega arith in
    ap (λ (k : ℕ). put_all (put_all (set old at x) (at + 1) xs) k ys) e ∙ put_all-append xs ys (set old at x) (at + 1)

pub put_all_next : (xs front old mid : List EtherField) (count : ℕ) → count ≡ length front → Holds front old mid count
    → Holds (front ++ xs) old (put_all mid count xs) (count + length xs)
put_all_next [] front old mid count counted held = search (rules, append-nil)
put_all_next (x ∷ xs) front old mid count counted held =
    let next : count + 1 ≡ length (front ++ x ∷ []) = let e = length-append front (x ∷ []) in omega arith in
    let same : count + 1 + length xs ≡ count + suc (length xs) = omega arith in
    put_all_next xs (front ++ x ∷ []) old (set mid count x) (count + 1) next
    (put_next front old mid x count counted held)
    ∙ (λ i. take (length old) (append_assoc front (x ∷ []) xs i) ++ drop (same i) old)

-- ---- the fields of a header

-- each byte of a header has at most two of its fields
pub few_fields : (h : Header) → length (header_fields h) + length (trailer_fields h) ≤ 2 * header_len h
few_fields (headers.Ethernet2 e) = omega arith
few_fields h = search rules

pub length-placed : (list : List ℕ) (index start finish : ℕ) (h : Header)
    → length (c_placed_fields list index start finish h) ≡ length (header_fields h) + length (trailer_fields h)
length-placed list index start finish h = search (rules, length-append, length-map)
