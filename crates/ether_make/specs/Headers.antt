-- The bytes of a header that an object means.
use Rattle.std.specs.Prelude.{ℕ, ◌+◌, ◌*◌, ◌/◌, min, List, [], ◌∷◌, codes, map, Bool, Option, Some, None, Result, Ok, Err, nat_eq, ◌||◌, if◌then◌else◌}
use Rattle.std.specs.List.{find}
use Rattle.std.specs.Str.{bytes_eq}
use Rattle.serde_json.specs.Data.{Data}
use Rattle.serde_json.specs.Find.{as_str}
use Rattle.ether_fields.specs.Rows.{Row}
use Rattle.ether_fields.specs.Fields.{section_name, section_rows}
use Rattle.ether_fields.specs.Places.{bits_of}
use Rattle.ether_fields.specs.declared.part.Part.TheVariants.{Header}
use Rattle.ether_fields.specs.declared.section.Section.{Section}
use Rattle.ether_fields.specs.declared.section.Section.TheVariants as sections
use Rattle.ether_make.specs.declared.refusal.Reason.{Reason}
use Rattle.ether_make.specs.declared.refusal.Reason.TheVariants.{Missing, NotAText, NotAHeader, Unknown}
use Rattle.ether_make.specs.Bits.{packed}
use Rattle.ether_make.specs.FieldBits.{field_bits}
use Rattle.ether_make.specs.Objects.{first_given, given, unknown_member}
use Rattle.ether_make.specs.Refusals.{Meaning, refused, joined, result_map}
use Rattle.ether_make.specs.Sizes.{lengths_of}
use Rattle.ether_make.specs.declared.sizes.Lengths.{Lengths}

-- ---- which header

-- the headers that are made
abbrev pub made_sections : List Section
made_sections =
    sections.Eth ∷ sections.Sll ∷ sections.Sll2 ∷ sections.Vlan ∷ sections.Macsec ∷ sections.Arp ∷ []

abbrev pub section_named : (name : List ℕ) → Option Section
section_named name = find (λ s. bytes_eq (section_name s) name) made_sections

abbrev pub named_or_not : Option Section → Result Section Reason
named_or_not None = Err NotAHeader
named_or_not (Some s) = Ok s

abbrev pub section_called : Option (List ℕ) → Result Section Reason
section_called None = Err NotAText
section_called (Some name) = named_or_not (section_named name)

abbrev pub section_given : Option Data → Result Section Reason
section_given None = Err Missing
section_given (Some d) = section_called (as_str d)

-- the header that an object names
abbrev pub section_in : Data → Result Section Reason
section_in d = section_given (given (codes "header") d)

abbrev pub if_named : Result Section Reason → Option Section
if_named (Ok s) = Some s
if_named (Err reason) = None

-- .. the first of some objects, if it names one
abbrev pub next_in : List Data → Option Section
next_in [] = None
next_in (d ∷ ds) = if_named (section_in d)

-- ---- what is missing

-- the ether type before a header (IEEE 802.1Q, 9.4; IEEE 802.1AE, 9.4; RFC 826); 0 if none follows
abbrev pub announced : (next : Option Section) → ℕ
announced (Some sections.Vlan) = 0x8100
announced (Some sections.Macsec) = 0x88E5
announced (Some sections.Arp) = 0x0806
announced _ = 0

abbrev pub flag : Bool → ℕ
flag b = if b then 1 else 0

-- the fields that announce the next header, by the number of the row: the ether types of Ethernet II (3), of a VLAN tag
-- (12) and after a SecTag (24), and the protocols of the cooked captures (8 and 35)
abbrev pub announces : (number : ℕ) → Bool
announces number =
    nat_eq number 3 || nat_eq number 12 || nat_eq number 24 || nat_eq number 8 || nat_eq number 35

-- The value of a field that is not given, by the number of its row. A cooked capture has the hardware type of Ethernet
-- (5 and 38) and the length of its address (6 and 40), a SecTag the bit of its SCI (15); an ARP packet (25 to 29) is a
-- request for an address of IPv4 over Ethernet, with the sizes of its addresses. All else is 0.
abbrev pub rule : Lengths → (next : Option Section) → (number : ℕ) → ℕ
rule lengths next number =
    if announces number then announced next
    else (if nat_eq number 5 || nat_eq number 38 || nat_eq number 25 || nat_eq number 29 then 1
    else (if nat_eq number 6 || nat_eq number 40 then lengths.address
    else (if nat_eq number 15 then flag lengths.sizes.has_sci
    else (if nat_eq number 26 then 0x0800
    else (if nat_eq number 27 then lengths.sizes.hardware / 8
    else (if nat_eq number 28 then lengths.sizes.protocol / 8 else 0))))))

-- How many bits a text spells of the address of a cooked capture (7 and 41): as many as its length says, and all if
-- that is more.
abbrev pub part : Lengths → (number : ℕ) → Option ℕ
part lengths number = if nat_eq number 7 || nat_eq number 41 then Some (8 * min lengths.address 8) else None

-- ---- its fields

abbrev pub told : {X : Type 0} → (header : Option ℕ) → (member : List ℕ) → Result X Reason → Meaning X
told header member (Ok x) = Ok x
told header member (Err reason) = Err (refused header member reason)

abbrev pub field_meaning : (at : ℕ) → Lengths → (next : Option Section) → Data → Row → Meaning (List Bool)
field_meaning at lengths next d r =
    told (Some at) r.name
    (field_bits r.kind r.extent (bits_of (Header lengths.sizes) r.extent) (part lengths r.number)
    (first_given r.name d) (rule lengths next r.number))

-- the bits of fields, one field after the other, in the order of the rows
abbrev pub fields_meaning : (at : ℕ) → Lengths → (next : Option Section) → Data → List Row → Meaning (List Bool)
fields_meaning at lengths next d [] = Ok []
fields_meaning at lengths next d (r ∷ rs) =
    joined (field_meaning at lengths next d r) (fields_meaning at lengths next d rs)

-- ---- the header

abbrev pub unless_unknown : {X : Type 0} → (header : Option ℕ) → (unknown : Option (List ℕ)) → Meaning X → Meaning X
unless_unknown header None meaning = meaning
unless_unknown header (Some name) meaning = Err (refused header name Unknown)

abbrev pub names : Section → List (List ℕ)
names s = map (λ r. r.name) (section_rows s)

abbrev pub header_bits : (at : ℕ) → (next : Option Section) → Data → Section → Meaning (List Bool)
header_bits at next d s =
    unless_unknown (Some at) (unknown_member (names s) d) (fields_meaning at (lengths_of d) next d (section_rows s))

abbrev pub header_bytes_of : (at : ℕ) → (next : Option Section) → Data → Result Section Reason → Meaning (List ℕ)
header_bytes_of at next d (Err reason) = Err (refused (Some at) (codes "header") reason)
header_bytes_of at next d (Ok s) = result_map packed (header_bits at next d s)

abbrev pub header_bytes : (at : ℕ) → (next : Option Section) → Data → Meaning (List ℕ)
header_bytes at next d = header_bytes_of at next d (section_in d)

-- one header after the other
abbrev pub headers_bytes : (at : ℕ) → List Data → Meaning (List ℕ)
headers_bytes at [] = Ok []
headers_bytes at (d ∷ ds) = joined (header_bytes at (next_in ds) d) (headers_bytes (at + 1) ds)
