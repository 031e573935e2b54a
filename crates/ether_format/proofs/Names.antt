-- Each section has a name of its own, and each field of a section.
use Rattle.std.proofs.Common.{◌≡◌, ℕ, zero, suc, List, [], ◌∷◌, Bool, true, false, map, refl, sym, ap, subst, ◌∙◌, arith, length, drop, ◌≤◌, ◌<◌}
use Rattle.std.specs.Prelude.{◌&&◌, ⊤, not, codes, if◌then◌else◌, slice_index_or, Option, Some, None}
use Rattle.std.specs.List.{IsAmong}
use Rattle.std.specs.Str.{bytes_eq}
use Rattle.std.proofs.lemmas.Slice.Eq.{bytes_eq-Decides}
use Rattle.ether_fields.specs.Rows.{Row}
use Rattle.ether_fields.specs.Fields.{field_view, column_names, section_name, section_rows}
use Rattle.ether_fields.specs.declared.field.Field.{Field}
use Rattle.ether_fields.specs.declared.section.Section.{Section}
use Rattle.ether_fields.specs.declared.section.Section.TheVariants as sections
use Rattle.ether_format.specs.Columns.{name_at, values_named}
use Rattle.ether_format.specs.Members.{Value, members}
use Rattle.ether_format.specs.Values.{if_any, value_at}

-- ---- the same bytes, and others

pub same_bytes : (a : List ℕ) → bytes_eq a a ≡ true
same_bytes a = (bytes_eq-Decides a a).1 refl

pub other_bytes : (a b : List ℕ) → (a ≡ b → ⊥) → bytes_eq a b ≡ false
other_bytes a b other = by_answer (bytes_eq a b) (bytes_eq-Decides a b).0
  where
    by_answer : (answer : Bool) → (answer ≡ true → a ≡ b) → answer ≡ false
    by_answer true same = absurd (other (same refl))
    by_answer false same = refl

abbrev IfTrue : Bool → Type 0
IfTrue true = ⊤
IfTrue false = ⊥

pub true_false : true ≡ false → ⊥
true_false same = subst IfTrue same tt

pub both : (a b : Bool) → (a && b) ≡ true → (a ≡ true) × (b ≡ true)
both true b holds = (refl, holds)
both false b holds = absurd (true_false (sym holds))

pub is_false : (b : Bool) → not b ≡ true → b ≡ false
is_false true holds = sym holds
is_false false holds = refl

-- ---- names of sections

-- the section of a name
abbrev named : List ℕ → Section
named name =
    if bytes_eq name (codes "frame") then sections.Frame
    else if bytes_eq name (codes "eth") then sections.Eth
    else if bytes_eq name (codes "sll") then sections.Sll
    else if bytes_eq name (codes "sll2") then sections.Sll2
    else if bytes_eq name (codes "vlan") then sections.Vlan
    else if bytes_eq name (codes "macsec") then sections.Macsec
    else if bytes_eq name (codes "arp") then sections.Arp
    else if bytes_eq name (codes "headers") then sections.Headers
    else if bytes_eq name (codes "rest") then sections.Rest
    else sections.Fault

named_back : (s : Section) → named (section_name s) ≡ s
named_back sections.Frame = refl
named_back sections.Eth = refl
named_back sections.Sll = refl
named_back sections.Sll2 = refl
named_back sections.Vlan = refl
named_back sections.Macsec = refl
named_back sections.Arp = refl
named_back sections.Headers = refl
named_back sections.Rest = refl
named_back sections.Fault = refl

pub one_section : (s t : Section) → section_name s ≡ section_name t → s ≡ t
one_section s t same = sym (named_back s) ∙ ap named same ∙ named_back t

-- ---- names of fields

-- a name is neither empty nor one of those of these rows
abbrev is_apart : List ℕ → List Row → Bool
is_apart name [] = not (bytes_eq name [])
is_apart name (r ∷ rs) = not (bytes_eq name r.name) && (not (bytes_eq r.name name) && is_apart name rs)

abbrev are_apart : List Row → Bool
are_apart [] = true
are_apart (r ∷ rs) = is_apart r.name rs && are_apart rs

pub rows_apart : (s : Section) → are_apart (section_rows s) ≡ true
rows_apart sections.Frame = refl
rows_apart sections.Eth = refl
rows_apart sections.Sll = refl
rows_apart sections.Sll2 = refl
rows_apart sections.Vlan = refl
rows_apart sections.Macsec = refl
rows_apart sections.Arp = refl
rows_apart sections.Headers = refl
rows_apart sections.Rest = refl
rows_apart sections.Fault = refl

-- a name that is not among those of rows is that of no member
not_at : (name : List ℕ) (rs : List Row) (i : ℕ) → is_apart name rs ≡ true
    → bytes_eq name (name_at rs i) ≡ false
not_at name [] i apart = is_false (bytes_eq name []) apart
not_at name (r ∷ rs) zero apart = is_false (bytes_eq name r.name) (both _ _ apart).0
not_at name (r ∷ rs) (suc i) apart = not_at name rs i (both _ _ (both _ _ apart).1).1

no_other : (name : List ℕ) (rs : List Row) (vs : List (Option Value)) → is_apart name rs ≡ true
    → values_named name (members rs vs) ≡ []
no_other name [] vs apart = refl
no_other name (r ∷ rs) [] apart = refl
no_other name (r ∷ rs) (Some v ∷ vs) apart =
    let two = both _ _ (both _ _ apart).1 in
    ap (λ (b : Bool). if b then v ∷ values_named name (members rs vs) else values_named name (members rs vs))
    (is_false (bytes_eq r.name name) two.0)
    ∙ no_other name rs vs two.1
no_other name (r ∷ rs) (None ∷ vs) apart = no_other name rs vs (both _ _ (both _ _ apart).1).1

-- the member at an index of a section has the value at that index
pub named_at : (rs : List Row) (vs : List (Option Value)) (i : ℕ) → are_apart rs ≡ true → length vs ≤ length rs
    → values_named (name_at rs i) (members rs vs) ≡ if_any (value_at vs i)
named_at [] [] i apart le = refl
named_at [] (v ∷ vs) i apart le = absurd (omega (arith, le))
named_at (r ∷ rs) [] i apart le = refl
named_at (r ∷ rs) (Some v ∷ vs) zero apart le =
    ap (λ (b : Bool). if b then v ∷ values_named r.name (members rs vs) else values_named r.name (members rs vs))
    (same_bytes r.name)
    ∙ ap (λ (l : List Value). v ∷ l) (no_other r.name rs vs (both _ _ apart).0)
named_at (r ∷ rs) (None ∷ vs) zero apart le = no_other r.name rs vs (both _ _ apart).0
named_at (r ∷ rs) (Some v ∷ vs) (suc i) apart le =
    let n = name_at rs i in
    ap (λ (b : Bool). if b then v ∷ values_named n (members rs vs) else values_named n (members rs vs))
    (not_at r.name rs i (both _ _ apart).0)
    ∙ named_at rs vs i (both _ _ apart).1 (omega (arith, le))
named_at (r ∷ rs) (None ∷ vs) (suc i) apart le = named_at rs vs i (both _ _ apart).1 (omega (arith, le))

-- ---- the columns of fields

-- a field is the column of this name
abbrev pub is_column_named : Field → List ℕ → Bool
is_column_named f name = f.is_column && bytes_eq f.name.now name

abbrev pub names_in : List Field → List (List ℕ)
names_in fields = column_names (map field_view fields)

not_first : (name n : List ℕ) (ns : List (List ℕ)) → bytes_eq n name ≡ false → IsAmong (n ∷ ns) name
    → IsAmong ns name
not_first name n ns other (zero, (lt, same)) =
    absurd (true_false (sym (same_bytes name) ∙ ap (λ (k : List ℕ). bytes_eq k name) same ∙ other))
not_first name n ns other (suc i, (lt, same)) = (i, (omega (arith, lt), same))

-- .. among the later fields, if the first is not it
pub among_later : (name : List ℕ) (f : Field) (fs : List Field) → is_column_named f name ≡ false
    → IsAmong (names_in (f ∷ fs)) name → IsAmong (names_in fs) name
among_later name f fs other among = by f.is_column other among
  where
    by : (b : Bool) → (b && bytes_eq f.name.now name) ≡ false
        → IsAmong (if b then f.name.now ∷ names_in fs else names_in fs) name → IsAmong (names_in fs) name
    by true other among = not_first name f.name.now (names_in fs) other among
    by false other among = among

pub among_first : (name : List ℕ) (f : Field) (fs : List Field) → is_column_named f name ≡ true
    → IsAmong (names_in (f ∷ fs)) name
among_first name f fs is = by f.is_column (both _ _ is).0
  where
    same : name ≡ f.name.now
    same = sym ((bytes_eq-Decides f.name.now name).0 (both f.is_column (bytes_eq f.name.now name) is).1)

    by : (b : Bool) → b ≡ true → IsAmong (if b then f.name.now ∷ names_in fs else names_in fs) name
    by true holds = (0, (omega arith, same))
    by false holds = absurd (true_false (sym holds))

pub among_more : (name : List ℕ) (f : Field) (fs : List Field) → IsAmong (names_in fs) name
    → IsAmong (names_in (f ∷ fs)) name
among_more name f fs among = by f.is_column
  where
    by : (b : Bool) → IsAmong (if b then f.name.now ∷ names_in fs else names_in fs) name
    by true = (suc among.0, (let lt = among.1.0 in omega (arith, lt), among.1.1))
    by false = among

-- the field at an index is the column of this name
pub among_at : (name : List ℕ) (fs : List Field) (i : ℕ) (d : Field) → i < length fs
    → is_column_named (slice_index_or fs i d) name ≡ true → IsAmong (names_in fs) name
among_at name [] i d lt is = absurd (omega (arith, lt))
among_at name (f ∷ fs) zero d lt is = among_first name f fs is
among_at name (f ∷ fs) (suc i) d lt is = among_more name f fs (among_at name fs i d (omega (arith, lt)) is)

pub named_here : (name : List ℕ) (fs : List Field) (i : ℕ) (d : Field) → i < length fs
    → is_column_named (slice_index_or fs i d) name ≡ true → slice_index_or (map (λ f. f.name.now) fs) i [] ≡ name
named_here name [] i d lt is = absurd (omega (arith, lt))
named_here name (f ∷ fs) zero d lt is = (bytes_eq-Decides f.name.now name).0 (both _ _ is).1
named_here name (f ∷ fs) (suc i) d lt is = named_here name fs i d (omega (arith, lt)) is

-- no field before this index is it
pub not_before : (name : List ℕ) (fs : List Field) (i : ℕ) (d : Field) → i < length fs
    → is_column_named (slice_index_or fs i d) name ≡ false → IsAmong (names_in (drop i fs)) name
    → IsAmong (names_in (drop (suc i) fs)) name
not_before name [] i d lt other among = absurd (omega (arith, lt))
not_before name (f ∷ fs) zero d lt other among = among_later name f fs other among
not_before name (f ∷ fs) (suc i) d lt other among = not_before name fs i d (omega (arith, lt)) other among

pub none_left : (name : List ℕ) (fs : List Field) (i : ℕ) → length fs ≤ i → IsAmong (names_in (drop i fs)) name → ⊥
none_left name [] zero le among = let lt = among.1.0 in omega (arith, lt)
none_left name [] (suc i) le among = let lt = among.1.0 in omega (arith, lt)
none_left name (f ∷ fs) zero le among = absurd (omega (arith, le))
none_left name (f ∷ fs) (suc i) le among = none_left name fs i (omega (arith, le)) among

-- ---- the names of rows

name_in : (fs : List Field) (i : ℕ) → name_at (map field_view fs) i ≡ slice_index_or (map (λ f. f.name.now) fs) i []
name_in [] i = refl
name_in (f ∷ fs) zero = refl
name_in (f ∷ fs) (suc i) = name_in fs i

pub row_name : (fs : List Field) (rs : List Row) (i : ℕ) → map field_view fs ≡ rs
    → name_at rs i ≡ slice_index_or (map (λ f. f.name.now) fs) i []
row_name fs rs i are = ap (λ (l : List Row). name_at l i) (sym are) ∙ name_in fs i

pub field_name : (fs : List Field) (rs : List Row) (i : ℕ) (d : Field) → map field_view fs ≡ rs → i < length fs
    → (slice_index_or fs i d).name.now ≡ name_at rs i
field_name fs rs i d are lt = here fs i lt ∙ ap (λ (l : List Row). name_at l i) are
  where
    here : (fs : List Field) (i : ℕ) → i < length fs → (slice_index_or fs i d).name.now ≡ name_at (map field_view fs) i
    here [] i lt = absurd (omega (arith, lt))
    here (f ∷ fs) zero lt = refl
    here (f ∷ fs) (suc i) lt = here fs i (omega (arith, lt))
