-- Objects, written member by member.
use Rattle.std.proofs.Common.{◌≡◌, ℕ, List, [], ◌∷◌, ◌++◌, Bool, true, false, refl, sym, ap, ◌∙◌, append_assoc, append-nil}
use Rattle.std.specs.Prelude.{codes, if◌then◌else◌, Option, Some, None}
use Rattle.std.specs.List.{flat_map}
use Rattle.etherparse.specs.Header as headers
use Rattle.etherparse.specs.Ethernet2.{ethernet2_of}
use Rattle.ether_peel.specs.declared.peel_unit.PeelUnit.TheVariants as units
use Rattle.ether_fields.specs.Fields.{section_name, section_rows}
use Rattle.ether_fields.specs.Rows.{Row, place_rows, ethernet2_rows, linux_sll_rows, linux_sll2_rows, vlan_rows, macsec_rows, arp_rows}
use Rattle.ether_fields.specs.Units.{header_section}
use Rattle.ether_fields.specs.declared.section.Section.{Section}
use Rattle.ether_format.specs.declared.found.Found.{Found}
use Rattle.ether_format.specs.declared.found_header.FoundHeader.{FoundHeader}
use Rattle.ether_format.specs.declared.found_header.FoundHeader.TheVariants as found
use Rattle.ether_format.specs.Found.{found_told}
use Rattle.ether_format.specs.FoundHeaders.{found_keyed, found_section, found_values}
use Rattle.ether_format.specs.Json.{json_end, json_end_of, json_member, json_members, json_object, json_objects}
use Rattle.ether_format.specs.Lines.{headers_text, json_end_front}
use Rattle.ether_format.specs.declared.line.Line.TheVariants.{Json, Brief}
use Rattle.ether_format.specs.Members.{Member, Value, members}
use Rattle.ether_format.specs.Spelling.{json_value, quoted}
use Rattle.ether_format.specs.declared.end.End.{End}
use Rattle.ether_format.specs.declared.end.End.TheVariants.{Rest, Skipped, Fault}
use Rattle.ether_format.specs.Told.{Told, end_members, end_section, place_values, told_members}
use Rattle.ether_format.specs.Values.{Keyed, keyed, keyed_after, keyed_text}
use Rattle.ether_format.specs.Brief.{brief_told}
use Rattle.ether_format.proofs.ColumnLemmas.{found_own, found_told_section}
use Rattle.ether_format.proofs.ListLemmas.{flat_map-append}

-- ---- members

abbrev pub later : Member → List ℕ
later m = codes "," ++ json_member m

-- a name between quotation marks, a colon, and a value
named : (name value : List ℕ) → (name ++ codes "\":") ++ value ≡ (name ++ codes "\"") ++ (codes ":" ++ value)
named name value =
    append_assoc name (codes "\":") value ∙ sym (append_assoc name (codes "\"") (codes ":" ++ value))

pub after_text : (rs : List Row) (vs : List (Option Value))
    → flat_map keyed_text (keyed_after rs vs) ≡ flat_map later (members rs vs)
after_text [] [] = refl
after_text [] (v ∷ vs) = refl
after_text (r ∷ rs) [] = refl
after_text (r ∷ rs) (Some v ∷ vs) =
    λ i. (codes ",\"" ++ named r.name (json_value v) i) ++ after_text rs vs i
after_text (r ∷ rs) (None ∷ vs) = after_text rs vs

-- the first row has a value
abbrev pub has_first : List Row → List (Option Value) → Bool
has_first (r ∷ rs) (Some v ∷ vs) = true
has_first rs vs = false

-- an object from its first member to its last one
pub open_object : (rs : List Row) (vs : List (Option Value)) → has_first rs vs ≡ true
    → flat_map keyed_text (keyed rs vs) ≡ codes "{" ++ json_members (members rs vs)
open_object (r ∷ rs) (Some v ∷ vs) first =
    λ i. (codes "{\"" ++ named r.name (json_value v) i) ++ after_text rs vs i
open_object (r ∷ rs) (None ∷ vs) first = absurd cc
open_object (r ∷ rs) [] first = absurd cc
open_object [] vs first = absurd cc

-- members precede others
joined : (m : Member) (ms more : List Member)
    → json_members (m ∷ ms) ++ flat_map later more ≡ json_members ((m ∷ ms) ++ more)
joined m ms more =
    append_assoc (json_member m) (flat_map later ms) (flat_map later more)
    ∙ ap (λ l. json_member m ++ l) (sym (flat_map-append later ms more))

abbrev pub has_some : List Member → Bool
has_some [] = false
has_some (m ∷ ms) = true

-- an object of members, and more of them
pub open_more : (ms more : List Member) (end : List ℕ) → has_some ms ≡ true
    → (codes "{" ++ json_members ms) ++ (flat_map later more ++ (codes "}" ++ end)) ≡ json_object (ms ++ more) ++ end
unfolding json_object
open_more [] more end some = absurd cc
open_more (m ∷ ms) more end some =
    sym (append_assoc (codes "{" ++ json_members (m ∷ ms)) (flat_map later more) (codes "}" ++ end))
    ∙ ap (λ l. (codes "{" ++ l) ++ (codes "}" ++ end)) (joined m ms more)
    ∙ ap (λ l. codes "{" ++ l) (sym (append_assoc (json_members ((m ∷ ms) ++ more)) (codes "}") end))

-- ---- headers

abbrev pub own_rows : FoundHeader → List Row
own_rows (found.Walked (units.Ethernet2 f)) = ethernet2_rows
own_rows (found.Walked (units.LinuxSll bytes)) = linux_sll_rows
own_rows (found.Walked (units.Vlan bytes)) = vlan_rows
own_rows (found.Walked (units.Macsec packet)) = macsec_rows
own_rows (found.Walked (units.Arp bytes)) = arp_rows
own_rows (found.Cooked header) = linux_sll_rows
own_rows (found.CookedV2 packet) = linux_sll2_rows

rows_are : (h : FoundHeader) → section_rows (found_section h) ≡ place_rows ++ own_rows h
rows_are (found.Walked (units.Ethernet2 f)) = by_mark f.has_fcs
  where
    by_mark : (b : Bool)
        → section_rows (header_section
        (if b then headers.Ethernet2Fcs (ethernet2_of f.bytes) else headers.Ethernet2 (ethernet2_of f.bytes)))
        ≡ place_rows ++ ethernet2_rows
    by_mark true = refl
    by_mark false = refl
rows_are (found.Walked (units.LinuxSll bytes)) = refl
rows_are (found.Walked (units.Vlan bytes)) = refl
rows_are (found.Walked (units.Macsec packet)) = refl
rows_are (found.Walked (units.Arp bytes)) = refl
rows_are (found.Cooked header) = refl
rows_are (found.CookedV2 packet) = refl

keyed_own : (h : FoundHeader) → found_keyed h ≡ keyed_after (own_rows h) (found_values h)
keyed_own (found.Walked (units.Ethernet2 f)) = refl
keyed_own (found.Walked (units.LinuxSll bytes)) = refl
keyed_own (found.Walked (units.Vlan bytes)) = refl
keyed_own (found.Walked (units.Macsec packet)) = refl
keyed_own (found.Walked (units.Arp bytes)) = refl
keyed_own (found.Cooked header) = refl
keyed_own (found.CookedV2 packet) = refl

-- an object of a header with these values of its own, and more members
pub more_of : (f : Found) (values : List (Option Value)) (own : List Keyed) (told more : List Member)
    → f.section ≡ found_section f.header → own ≡ keyed_after (own_rows f.header) values
    → members (section_rows (found_section f.header))
    (place_values (section_name (found_section f.header)) f.place ++ values)
    ≡ told
    → flat_map keyed_text (keyed place_rows (place_values (section_name f.section) f.place))
    ++ (flat_map keyed_text own ++ (flat_map later more ++ codes "}"))
    ≡ json_object (told ++ more)
more_of f values own told more section keys is =
    let h = f.header in
    let place = f.place in
    let placed = place_values (section_name (found_section h)) place in
    let first = keyed place_rows placed in
    let last = flat_map later more ++ codes "}" in
    ap (λ (s : Section). flat_map keyed_text (keyed place_rows (place_values (section_name s) place))
    ++ (flat_map keyed_text own ++ last)) section
    ∙ sym (append_assoc (flat_map keyed_text first) (flat_map keyed_text own) last)
    ∙ ap (λ (l : List ℕ). l ++ last)
    (sym (flat_map-append keyed_text first own) ∙ ap (λ (l : List Keyed). flat_map keyed_text (first ++ l)) keys
    ∙ open_object (place_rows ++ own_rows h) (placed ++ values) refl)
    ∙ open_more (members (place_rows ++ own_rows h) (placed ++ values)) more [] refl
    ∙ append-nil _
    ∙ ap (λ (rows : List Row). json_object (members rows (placed ++ values) ++ more)) (sym (rows_are h))
    ∙ ap (λ (l : List Member). json_object (l ++ more)) is

pub found_object : (f : Found) → f.section ≡ found_section f.header
    → flat_map keyed_text (keyed place_rows (place_values (section_name f.section) f.place))
    ++ (flat_map keyed_text (found_keyed f.header) ++ codes "}")
    ≡ json_object (told_members (found_told f))
found_object f own =
    let h = f.header in
    more_of f (found_values h) (found_keyed h) (told_members (found_told f)) [] own (keyed_own h)
    (sym (λ i. members (section_rows (found_told_section f.place h i)) (found_own f.place h i)))
    ∙ ap json_object (append-nil (told_members (found_told f)))

-- ---- lists of headers

pub later_objects : (hs : List Told)
    → headers_text Json false hs ≡ flat_map (λ k. codes "," ++ json_object (told_members k)) hs
later_objects [] = refl
later_objects (h ∷ hs) = ap (λ l. (codes "," ++ json_object (told_members h)) ++ l) (later_objects hs)

pub all_objects : (hs : List Told) → headers_text Json true hs ≡ json_objects hs
all_objects [] = refl
all_objects (h ∷ hs) = ap (λ l. json_object (told_members h) ++ l) (later_objects hs)

pub brief_headers : (first : Bool) (hs : List Told) → headers_text Brief first hs ≡ flat_map brief_told hs
brief_headers first [] = refl
brief_headers first (h ∷ hs) = ap (λ l. brief_told h ++ l) (brief_headers false hs)

-- ---- how a walk ends

some_end : (end : End) → has_some (end_members end) ≡ true
some_end (Rest start finish kind) = refl
some_end (Skipped len) = refl
some_end (Fault start closed cause) = refl

-- how a walk ends, with more members
pub end_more : (end : End) (more : List Member)
    → json_end_front end ++ (flat_map later more ++ codes "}}\n") ≡ json_end_of end (end_members end ++ more)
end_more end more =
    let name = quoted (section_name (end_section end)) in
    ap (λ l. codes "]," ++ l)
    (append_assoc name (codes ":" ++ (codes "{" ++ json_members (end_members end)))
    (flat_map later more ++ codes "}}\n"))
    ∙ ap (λ l. codes "]," ++ (name ++ (codes ":" ++ l)))
    (open_more (end_members end) more (codes "}\n") (some_end end))

pub end_whole : (end : End) → json_end_front end ++ codes "}}\n" ≡ json_end end
end_whole end = end_more end [] ∙ ap (json_end_of end) (append-nil (end_members end))
