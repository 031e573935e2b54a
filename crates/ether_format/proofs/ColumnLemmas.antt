-- The values of a column.
use Rattle.std.proofs.Common.{◌≡◌, ℕ, zero, suc, ◌-◌, List, [], ◌∷◌, ◌++◌, Bool, true, false, length, map, refl, sym, ap, ◌∙◌, ◌≤◌, append-nil, arith}
use Rattle.std.specs.Prelude.{if◌then◌else◌, Option}
use Rattle.etherparse.specs.Header.{Header}
use Rattle.etherparse.specs.Header as headers
use Rattle.etherparse.specs.Ethernet2.{ethernet2_of, fcs_of}
use Rattle.ether_peel.specs.Walker.UnitHeader.{unit_header}
use Rattle.ether_peel.specs.declared.peel_unit.PeelUnit.{PeelUnit}
use Rattle.ether_peel.specs.declared.peel_unit.PeelUnit.TheVariants as units
use Rattle.ether_fields.specs.Fields.{column_names, member_names, section_name, section_rows}
use Rattle.ether_fields.specs.Rows.{place_rows}
use Rattle.ether_fields.specs.declared.section.Section.{Section}
use Rattle.ether_fields.specs.declared.section.Section.TheVariants as sections
use Rattle.ether_format.specs.declared.end.End.{End}
use Rattle.ether_format.specs.declared.end.End.TheVariants as ends
use Rattle.ether_format.specs.declared.found_header.FoundHeader.{FoundHeader}
use Rattle.ether_format.specs.declared.found_header.FoundHeader.TheVariants as found
use Rattle.ether_format.specs.declared.place.Place.{Place}
use Rattle.ether_format.specs.Columns.{column_view, name_at, section, values_in, values_named}
use Rattle.ether_format.specs.FoundHeaders.{fcs_shown, found_section, found_values, header_told}
use Rattle.ether_format.specs.Members.{Member, Value, members}
use Rattle.ether_format.specs.Laws.{ColumnsAreMembers}
use Rattle.ether_format.specs.Told.{Told, Walked, CookedV2, end_members, end_section, end_values, header_values, place_values, told_members, told_place_values, told_section, told_values}
use Rattle.ether_format.specs.Values.{header_shown, if_any, unit_values, value_at}
use Rattle.ether_format.proofs.Names.{named_at, one_section, other_bytes, rows_apart, same_bytes}

-- ---- values of a section

-- a column of a section shows there the value at its index
pub in_section : (s : Section) (i : ℕ) (vs : List (Option Value)) → length vs ≤ length (section_rows s)
    → values_in (column_view (record { section = s; index = i }))
    (section (section_name s) (members (section_rows s) vs))
    ≡ if_any (value_at vs i)
in_section s i vs le =
    ap (λ (b : Bool). if b then values_named (name_at (section_rows s) i) (members (section_rows s) vs) else [])
    (same_bytes (section_name s))
    ∙ named_at (section_rows s) vs i (rows_apart s) le

-- .. and nothing in another one
pub in_other : (s t : Section) (i : ℕ) (ms : List Member) → (s ≡ t → ⊥)
    → values_in (column_view (record { section = s; index = i })) (section (section_name t) ms) ≡ []
in_other s t i ms other =
    ap (λ (b : Bool). if b then values_named (name_at (section_rows s) i) ms else [])
    (other_bytes (section_name t) (section_name s) (λ same. other (sym (one_section t s same))))

-- ---- headers

pub not_headers : (h : Told) → told_section h ≡ sections.Headers → ⊥
not_headers (Walked place (headers.Ethernet2 e) fcs) same = absurd cc
not_headers (Walked place (headers.Ethernet2Fcs e) fcs) same = absurd cc
not_headers (Walked place (headers.LinuxSll s) fcs) same = absurd cc
not_headers (Walked place (headers.Vlan v) fcs) same = absurd cc
not_headers (Walked place (headers.Macsec t) fcs) same = absurd cc
not_headers (Walked place (headers.Arp a) fcs) same = absurd cc
not_headers (CookedV2 place s) same = absurd cc

pub few_values : (h : Told) → length (told_values h) ≤ length (section_rows (told_section h))
few_values (Walked place (headers.Ethernet2 e) fcs) = omega arith
few_values (Walked place (headers.Ethernet2Fcs e) fcs) = omega arith
few_values (Walked place (headers.LinuxSll s) fcs) = omega arith
few_values (Walked place (headers.Vlan v) fcs) = omega arith
few_values (Walked place (headers.Macsec t) fcs) = omega arith
few_values (Walked place (headers.Arp a) fcs) = omega arith
few_values (CookedV2 place s) = omega arith

pub in_own : (s : Section) (i : ℕ) (h : Told) → s ≡ told_section h
    → if_any (value_at (told_values h) i) ≡ header_shown (column_view (record { section = s; index = i })) h
in_own s i h same =
    let own = told_section h in
    let other = in_other own sections.Headers i (members place_rows (told_place_values h)) (not_headers h) in
    sym
    (ap (λ (k : Section). header_shown (column_view (record { section = k; index = i })) h) same
    ∙ (λ k. in_section own i (told_values h) (few_values h) k ++ other k)
    ∙ append-nil (if_any (value_at (told_values h) i)))

pub in_place : (s : Section) (i : ℕ) (h : Told) → s ≡ sections.Headers
    → if_any (value_at (told_place_values h) i) ≡ header_shown (column_view (record { section = s; index = i })) h
in_place s i h same =
    let other = in_other sections.Headers (told_section h) i (told_members h) (λ is. not_headers h (sym is)) in
    sym
    (ap (λ (k : Section). header_shown (column_view (record { section = k; index = i })) h) same
    ∙ (λ k. other k ++ in_section sections.Headers i (told_place_values h) (omega arith) k))

pub in_none : (s : Section) (i : ℕ) (h : Told) → (s ≡ told_section h → ⊥) → (s ≡ sections.Headers → ⊥)
    → header_shown (column_view (record { section = s; index = i })) h ≡ []
in_none s i h one two =
    λ k. in_other s (told_section h) i (told_members h) one k
    ++ in_other s sections.Headers i (members place_rows (told_place_values h)) two k

-- ---- headers that are found

pub unit_own : (u : PeelUnit) → header_values (unit_header u) (fcs_shown u) ≡ unit_values u
unit_own (units.Ethernet2 f) = by_mark f.has_fcs
  where
    by_mark : (b : Bool)
        → header_values
        (if b then headers.Ethernet2Fcs (ethernet2_of f.bytes) else headers.Ethernet2 (ethernet2_of f.bytes))
        (fcs_of f)
        ≡ unit_values (units.Ethernet2 f)
    by_mark true = refl
    by_mark false = refl
unit_own (units.LinuxSll bytes) = refl
unit_own (units.Vlan bytes) = refl
unit_own (units.Macsec packet) = refl
unit_own (units.Arp bytes) = refl

pub found_own : (place : Place) (h : FoundHeader)
    → told_values (header_told place h) ≡ place_values (section_name (found_section h)) place ++ found_values h
found_own place (found.Walked u) =
    ap (λ (l : List (Option Value)). place_values (section_name (found_section (found.Walked u))) place ++ l)
    (unit_own u)
found_own place (found.Cooked header) = refl
found_own place (found.CookedV2 packet) = refl

pub found_told_section : (place : Place) (h : FoundHeader) → told_section (header_told place h) ≡ found_section h
found_told_section place (found.Walked u) = refl
found_told_section place (found.Cooked header) = refl
found_told_section place (found.CookedV2 packet) = refl

pub found_told_place : (place : Place) (h : FoundHeader)
    → told_place_values (header_told place h) ≡ place_values (section_name (found_section h)) place
found_told_place place (found.Walked u) = refl
found_told_place place (found.Cooked header) = refl
found_told_place place (found.CookedV2 packet) = refl

pub after_five : (a b c d e : Option Value) (vs : List (Option Value)) (i : ℕ) → 5 ≤ i
    → value_at (a ∷ b ∷ c ∷ d ∷ e ∷ vs) i ≡ value_at vs (i - 5)
after_five a b c d e vs zero le = absurd (omega (arith, le))
after_five a b c d e vs (suc zero) le = absurd (omega (arith, le))
after_five a b c d e vs (suc (suc zero)) le = absurd (omega (arith, le))
after_five a b c d e vs (suc (suc (suc zero))) le = absurd (omega (arith, le))
after_five a b c d e vs (suc (suc (suc (suc zero)))) le = absurd (omega (arith, le))
after_five a b c d e vs (suc (suc (suc (suc (suc i))))) le =
    let same : i ≡ suc (suc (suc (suc (suc i)))) - 5 = omega arith in ap (value_at vs) same

-- ---- how a walk ends

pub few_end_values : (end : End) → length (end_values end) ≤ length (section_rows (end_section end))
few_end_values (ends.Rest start finish kind) = omega arith
few_end_values (ends.Skipped len) = omega arith
few_end_values (ends.Fault start closed cause) = omega arith

-- ---- the members of a section are those that columns name

names_header : (place : Place) (h : Header) (fcs : Option (List ℕ))
    → (map (λ m. m.name) (told_members (Walked place h fcs))
    ≡ member_names (section_rows (told_section (Walked place h fcs))))
    × (map (λ m. m.name) (told_members (Walked place h fcs))
    ≡ column_names (section_rows (told_section (Walked place h fcs))))
names_header place (headers.Ethernet2 e) fcs = (refl, refl)
names_header place (headers.Ethernet2Fcs e) fcs = (refl, refl)
names_header place (headers.LinuxSll s) fcs = (refl, refl)
names_header place (headers.Vlan v) fcs = (refl, refl)
names_header place (headers.Macsec t) fcs = (refl, refl)
names_header place (headers.Arp a) fcs = (refl, refl)

names_told : (h : Told)
    → (map (λ m. m.name) (told_members h) ≡ member_names (section_rows (told_section h)))
    × (map (λ m. m.name) (told_members h) ≡ column_names (section_rows (told_section h)))
names_told (Walked place h fcs) = names_header place h fcs
names_told (CookedV2 place s) = (refl, refl)

names_end : (end : End)
    → (map (λ m. m.name) (end_members end) ≡ member_names (section_rows (end_section end)))
    × (map (λ m. m.name) (end_members end) ≡ column_names (section_rows (end_section end)))
names_end (ends.Rest start finish kind) = (refl, refl)
names_end (ends.Skipped len) = (refl, refl)
names_end (ends.Fault start closed cause) = (refl, refl)

pub columns_are_members : ColumnsAreMembers
columns_are_members = record {
  packet = λ origin p moment. refl;
  packet_column = λ origin p moment. refl;
  header = λ h. (names_told h).0;
  end = λ end. (names_end end).0;
  header_column = λ h. (names_told h).1;
  end_column = λ end. (names_end end).1;
}
