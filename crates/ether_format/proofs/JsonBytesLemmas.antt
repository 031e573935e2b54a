-- A line that says each byte of a packet.
use Rattle.std.proofs.Common.{◌≡◌, ℕ, List, [], ◌∷◌, ◌++◌, Bool, true, false, refl, sym, ap, subst, ◌∙◌, append_assoc, append-nil}
use Rattle.std.specs.Prelude.{codes, drop, if◌then◌else◌, nat_eq, Option, None}
use Rattle.std.specs.Fmt.{decimal}
use Rattle.std.specs.List.{flat_map}
use Rattle.etherparse.specs.Ethernet2.{Ethernet2Value, ethernet2_of}
use Rattle.etherparse.specs.Header as headers
use Rattle.ether_peel.specs.declared.peel_unit.PeelUnit.TheVariants as units
use Rattle.ether_fields.specs.Fields.{section_name, section_rows}
use Rattle.ether_fields.specs.Rows.{place_rows}
use Rattle.ether_fields.specs.Units.{header_section}
use Rattle.ether_fields.specs.declared.section.Section.{Section}
use Rattle.ether_output.specs.HexText.{hex_text}
use Rattle.ether_output.specs.OutputBuffer.{Takes}
use Rattle.ether_output.specs.declared.output_buffer.OutputBuffer.{OutputBuffer}
use Rattle.ether_output.proofs.OutputBufferLemmas.{Takes-none, Takes-same, Takes-then}
use Rattle.ether_format.specs.declared.found.Found.{Found}
use Rattle.ether_format.specs.declared.found_header.FoundHeader.{FoundHeader}
use Rattle.ether_format.specs.declared.found_header.FoundHeader.TheVariants as found
use Rattle.ether_format.specs.declared.json_bytes.ExactHeaders.{ExactHeaders}
use Rattle.ether_format.specs.declared.place.Place.{Place}
use Rattle.ether_format.specs.Found.{found_told}
use Rattle.ether_format.specs.FoundHeaders.{found_section, header_told}
use Rattle.ether_format.specs.Json.{json_object, objects_of}
use Rattle.ether_format.specs.JsonBytes.{exact_members, reserved_bits, reserved_members, told_reserved, without_check}
use Rattle.ether_format.specs.JsonBytesLines.{TakesExactHeader, bytes_text, exact_keyed, exact_values, reserved_text}
use Rattle.ether_format.specs.Members.{Member, Number, Word, ethernet2_values, member, members}
use Rattle.ether_format.specs.Told.{Told, Walked, place_values, told_members, told_place}
use Rattle.ether_format.specs.Values.{comma_if, keyed, keyed_after, keyed_text}
use Rattle.ether_format.specs.Visits.{Visited}
use Rattle.ether_format.proofs.ColumnLemmas.{found_told_section}
use Rattle.ether_format.proofs.JsonLemmas.{later, more_of, own_rows}

-- ---- a header

reserved_if : (bits : ℕ) (b : Bool)
    → (if b then [] else codes ",\"reserved\":" ++ decimal bits)
    ≡ flat_map later (if b then [] else member (codes "reserved") (Number bits) ∷ [])
reserved_if bits true = refl
reserved_if bits false = ap (λ l. codes ",\"reserved\":" ++ l) (sym (append-nil (decimal bits)))

reserved_more : (bits : ℕ) → reserved_text bits ≡ flat_map later (reserved_members bits)
reserved_more bits = reserved_if bits (nat_eq bits 0)

placed : (place : Place) (h : FoundHeader) → place ≡ told_place (header_told place h)
placed place (found.Walked u) = refl
placed place (found.Cooked header) = refl
placed place (found.CookedV2 packet) = refl

found_reserved : (packet : List ℕ) (f : Found) → f.section ≡ found_section f.header
    → reserved_bits f.section (drop f.place.start packet) ≡ told_reserved packet (found_told f)
found_reserved packet f own =
    let section : f.section ≡ _ = own ∙ sym (found_told_section f.place f.header) in
    λ i. reserved_bits (section i) (drop (placed f.place f.header i).start packet)

-- its members, without a frame check sequence
without_mark : (place : Place) (e : Ethernet2Value) (b : Bool)
    → let h = if b then headers.Ethernet2Fcs e else headers.Ethernet2 e in
    members (section_rows (header_section h))
    (place_values (section_name (header_section h)) place ++ ethernet2_values e None)
    ≡ told_members (Walked place h None)
without_mark place e true = refl
without_mark place e false = refl

exact_told : (place : Place) (h : FoundHeader)
    → members (section_rows (found_section h)) (place_values (section_name (found_section h)) place ++ exact_values h)
    ≡ told_members (without_check (header_told place h))
exact_told place (found.Walked (units.Ethernet2 f)) = without_mark place (ethernet2_of f.bytes) f.has_fcs
exact_told place (found.Walked (units.LinuxSll bytes)) = refl
exact_told place (found.Walked (units.Vlan bytes)) = refl
exact_told place (found.Walked (units.Macsec packet)) = refl
exact_told place (found.Walked (units.Arp bytes)) = refl
exact_told place (found.Cooked header) = refl
exact_told place (found.CookedV2 packet) = refl

exact_own : (h : FoundHeader) → exact_keyed h ≡ keyed_after (own_rows h) (exact_values h)
exact_own (found.Walked (units.Ethernet2 f)) = refl
exact_own (found.Walked (units.LinuxSll bytes)) = refl
exact_own (found.Walked (units.Vlan bytes)) = refl
exact_own (found.Walked (units.Macsec packet)) = refl
exact_own (found.Walked (units.Arp bytes)) = refl
exact_own (found.Cooked header) = refl
exact_own (found.CookedV2 packet) = refl

pub exact_object : (packet : List ℕ) (f : Found) (bits : ℕ) → f.section ≡ found_section f.header
    → bits ≡ reserved_bits f.section (drop f.place.start packet)
    → flat_map keyed_text (keyed place_rows (place_values (section_name f.section) f.place))
    ++ (flat_map keyed_text (exact_keyed f.header) ++ (reserved_text bits ++ codes "}"))
    ≡ json_object (exact_members packet (found_told f))
exact_object packet f bits own is =
    let h = f.header in
    let front = flat_map keyed_text (keyed place_rows (place_values (section_name f.section) f.place)) in
    ap (λ l. front ++ (flat_map keyed_text (exact_keyed h) ++ (l ++ codes "}")))
    (reserved_more bits
    ∙ ap (λ n. flat_map later (reserved_members n)) (is ∙ found_reserved packet f own))
    ∙ more_of f (exact_values h) (exact_keyed h) (told_members (without_check (found_told f)))
    (reserved_members (told_reserved packet (found_told f))) own (exact_own h)
    (exact_told f.place h)

-- ---- headers

-- objects, with a comma before each but the first
abbrev pub objects_text : (members : Told → List Member) → (first : Bool) → List Told → List ℕ
objects_text members first [] = []
objects_text members first (h ∷ hs) = (comma_if first ++ json_object (members h)) ++ objects_text members false hs

later_of : (members : Told → List Member) (hs : List Told)
    → objects_text members false hs ≡ flat_map (λ k. codes "," ++ json_object (members k)) hs
later_of members [] = refl
later_of members (h ∷ hs) = ap (λ l. (codes "," ++ json_object (members h)) ++ l) (later_of members hs)

pub all_of : (members : Told → List Member) (hs : List Told) → objects_text members true hs ≡ objects_of members hs
all_of members [] = refl
all_of members (h ∷ hs) = ap (λ l. json_object (members h) ++ l) (later_of members hs)

pub exact_visited : {W : Type 0} (contents : W → Option (List ℕ)) (can_fail : Type 0) (v : ExactHeaders)
    (out : OutputBuffer W) (hs : List Told) (w : ExactHeaders) (new : OutputBuffer W)
    → Visited (TakesExactHeader contents can_fail) v out hs w new
    → Takes contents can_fail out (objects_text (exact_members v.packet.now) v.is_first hs) new
exact_visited {W = W} contents can_fail v out [] w new visited =
    subst (λ (k : OutputBuffer W). Takes contents can_fail out [] k) (sym visited.1) (Takes-none contents can_fail out)
exact_visited contents can_fail v out (h ∷ hs) w new visited =
    let x = visited.0 in
    let after = exact_visited contents can_fail x visited.1 hs w new visited.3 in
    Takes-then visited.2.1
    (Takes-same (ap (λ (k : ExactHeaders). objects_text (exact_members k.packet.now) k.is_first hs) visited.2.0) after)

-- ---- the end

pub bytes_last : (bytes : List ℕ)
    → bytes_text bytes ≡ flat_map later (member (codes "bytes") (Word (hex_text bytes)) ∷ []) ++ codes "}}\n"
bytes_last bytes =
    ap (λ l. codes ",\"bytes\":\"" ++ l)
    (sym (ap (λ l. l ++ codes "}}\n") (append-nil (hex_text bytes ++ codes "\""))
    ∙ append_assoc (hex_text bytes) (codes "\"") (codes "}}\n")))
