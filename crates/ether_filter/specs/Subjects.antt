-- The fields that words name, and the values that they take.
use Rattle.std.specs.Prelude.{ℕ, ◌+◌, ◌-◌, ◌*◌, ◌/◌, ◌%◌, ◌^◌, List, [], ◌∷◌, length, Option, Some, None, Bool, true, false, not, take, drop, nat_eq, nat_lt, nat_le, codes, ◌||◌, ◌&&◌, if◌then◌else◌}
use Rattle.std.specs.Option.{option_map, option_or}
use Rattle.std.specs.List.{find, list_any}
use Rattle.std.specs.Cmp.Lexicographic.{pointwise}
use Rattle.etherparse.specs.Bytes.{number}
use Rattle.ether_fields.specs.Rows.{Row}
use Rattle.ether_fields.specs.Fields.{column_name, section_rows}
use Rattle.ether_fields.specs.declared.extent.Extent.{Extent}
use Rattle.ether_fields.specs.declared.extent.Extent.TheVariants as extents
use Rattle.ether_fields.specs.declared.field.Field.{Field}
use Rattle.ether_fields.specs.declared.kind.Kind.{Kind}
use Rattle.ether_fields.specs.declared.kind.Kind.TheVariants as kind
use Rattle.ether_fields.specs.declared.section.Section.{Section}
use Rattle.ether_fields.specs.declared.section.Section.TheVariants.{Eth, Sll, Vlan, Macsec, Arp}
use Rattle.ether_filter.specs.ByteTexts.{place_in, slice_in}
use Rattle.ether_filter.specs.declared.field_test.FieldTest.{FieldTest}
use Rattle.ether_filter.specs.declared.field_test.Relation.{Relation}
use Rattle.ether_filter.specs.declared.field_test.Relation.TheVariants as relations
use Rattle.ether_filter.specs.declared.primitive.Primitive.{Primitive}
use Rattle.ether_filter.specs.declared.primitive.Primitive.TheVariants as primitives
use Rattle.ether_filter.specs.declared.subject.Literal.{Literal}
use Rattle.ether_filter.specs.declared.subject.Subject.{Subject}
use Rattle.ether_filter.specs.declared.subject.Takes.{Takes}
use Rattle.ether_filter.specs.declared.subject.Takes.TheVariants as takes

-- ---- the field with a name

-- the sections whose fields can be tested
abbrev pub tested_sections : List Section
tested_sections = Eth ∷ Sll ∷ Vlan ∷ Macsec ∷ Arp ∷ []

-- the row of a section whose name as a column is this
abbrev pub row_in : (name : List ℕ) → Section → List Row → Option Row
row_in name s rows = find (λ r. pointwise nat_eq (column_name s r) name) rows

abbrev pub row_among : (name : List ℕ) → List Section → Option Row
row_among name [] = None
row_among name (s ∷ ss) = option_or (row_in name s (section_rows s)) (row_among name ss)

abbrev pub row_named : (name : List ℕ) → Option Row
row_named name = row_among name tested_sections

-- the first of the declared fields whose name as a column is this
abbrev pub field_found : (name : List ℕ) → List Field → Option Field
field_found name fields = find (λ f. pointwise nat_eq f.column.now name) fields

-- ---- the values that it takes

-- the greatest number in so many bits, which are some that fields have
abbrev pub greatest_in_bits : ℕ → Option ℕ
greatest_in_bits n =
    if list_any (nat_eq n) (1 ∷ 2 ∷ 3 ∷ 6 ∷ 8 ∷ 12 ∷ 16 ∷ 32 ∷ []) then Some (2 ^ n - 1) else None

-- .. in so many bytes, up to eight
abbrev pub greatest_in_bytes : ℕ → ℕ
greatest_in_bytes n = if nat_le n 7 then 2 ^ (8 * n) - 1 else 2 ^ 64 - 1

abbrev pub takes_in_bits : Kind → ℕ → Option Takes
takes_in_bits kind.Bytes n = Some (takes.Bytes (n / 8))
takes_in_bits _ n = option_map takes.Number (greatest_in_bits n)

abbrev pub takes_in : Kind → Extent → Option Takes
takes_in kind (extents.Bits n) = takes_in_bits kind n
takes_in kind extents.HardwareAddress = Some takes.AnyBytes
takes_in kind extents.ProtocolAddress = Some takes.AnyBytes
takes_in kind extents.SecureChannel = Some (takes.Bytes 8)
takes_in kind extents.PayloadType = Some (takes.Number 65535)
takes_in kind _ = None

-- those of a column that has bits in a header
abbrev pub takes_of : Row → Option Takes
takes_of r = if r.is_member then takes_in r.kind r.extent else None

abbrev pub subject_with : Row → Option Takes → Option Subject
subject_with r None = None
subject_with r (Some takes) =
    if nat_lt r.number 256 then Some (record { field = r.number; first = 0; count = 0; takes = takes }) else None

abbrev pub subject_of : Row → Option Subject
subject_of r = subject_with r (takes_of r)

abbrev pub subject_if : Option Row → Option Subject
subject_if None = None
subject_if (Some r) = subject_of r

-- a length of a packet has 32 bits
abbrev pub length_subject : (field : ℕ) → Subject
length_subject field = record { field = field; first = 0; count = 0; takes = takes.Number 4294967295 }

-- the name of a header
abbrev pub header_subject : Subject
header_subject = record { field = 252; first = 0; count = 0; takes = takes.Header }

-- the time of a packet
abbrev pub time_subject : Subject
time_subject = record { field = 253; first = 0; count = 0; takes = takes.Time }

-- the bytes of a field can have a slice
abbrev pub has_slice : Takes → (first count : ℕ) → Bool
has_slice (takes.Number most) first count = false
has_slice (takes.Bytes len) first count = nat_le (first + count) len
has_slice takes.AnyBytes first count = true
has_slice takes.Time first count = false
has_slice takes.Header first count = false

-- a slice of one to eight bytes
abbrev pub sliced : Subject → (first count : ℕ) → Option Subject
sliced s first count =
    if nat_eq count 0 || (nat_lt 8 count || not (has_slice s.takes first count)) then None
    else Some (record { field = s.field; first = first; count = count; takes = takes.Bytes count })

abbrev pub sliced_by : Subject → Option (ℕ × ℕ) → Option Subject
sliced_by s None = None
sliced_by s (Some slice) = sliced s slice.0 slice.1

abbrev pub sliced_if : Option Subject → (slice : List ℕ) → Option Subject
sliced_if None slice = None
sliced_if (Some s) slice = sliced_by s (slice_in slice)

-- the names of headers, and what a capture says of a packet; these fields have no number in the table, and have one
-- here
abbrev pub unnumbered_subject : List ℕ → Option Subject
unnumbered_subject name =
    if pointwise nat_eq name (codes "headers.header") then Some header_subject
    else (if pointwise nat_eq name (codes "frame.time") then Some time_subject
    else (if pointwise nat_eq name (codes "frame.captured") then Some (length_subject 254)
    else (if pointwise nat_eq name (codes "frame.original") then Some (length_subject 255) else None)))

-- the field before the first bracket (91), or the whole word
abbrev pub subject_at : List ℕ → Option ℕ → Option Subject
subject_at word None = option_or (unnumbered_subject word) (subject_if (row_named word))
subject_at word (Some at) = sliced_if (subject_if (row_named (take at word))) (drop at word)

-- the field that a word names, or the slice of its bytes
abbrev pub subject_in : List ℕ → Option Subject
subject_in word = subject_at word (place_in 91 0 word)

-- ---- a value

-- a number as a value
abbrev pub number_for : Takes → ℕ → Option Literal
number_for (takes.Number most) n = if nat_le n most then Some (record { len = 0; number = n }) else None
number_for (takes.Bytes len) n =
    if nat_le n (greatest_in_bytes len) then Some (record { len = len; number = n }) else None
number_for takes.AnyBytes n = None
number_for takes.Time n = None
number_for takes.Header n = None

-- bytes as a value
abbrev pub bytes_for : Takes → Literal → Option Literal
bytes_for (takes.Number most) bytes = None
bytes_for (takes.Bytes len) bytes = if nat_eq len bytes.len then Some bytes else None
bytes_for takes.AnyBytes bytes = Some bytes
bytes_for takes.Time bytes = None
bytes_for takes.Header bytes = None

-- a time as a value
abbrev pub time_for : Takes → ℕ → Option Literal
time_for takes.Time n = Some (record { len = 0; number = n })
time_for _ n = None

-- the name of a header as a value
abbrev pub name_for : Takes → List ℕ → Option Literal
name_for takes.Header name = Some (record { len = length name; number = number name })
name_for _ name = None

-- ---- a test

abbrev pub test_with : Subject → (mask : ℕ) → Relation → Literal → FieldTest
test_with s mask relation value = record {
  field = s.field;
  first = s.first;
  count = s.count;
  relation = relation;
  mask = mask;
  len = value.len;
  value = value.number;
}

-- the mask that keeps all bits
abbrev pub all_bits : ℕ
all_bits = 2 ^ 64 - 1

-- the primitive of a test whose value is the whole of a field: some have words of their own, as `vlan.vid == 5`, which
-- is `vlan 5`
abbrev pub equal_to : FieldTest → Primitive
equal_to t =
    if nat_eq t.field 11 then primitives.VlanId (t.value % 2 ^ 16)
    else (if nat_eq t.field 1 then primitives.Destination t.value
    else (if nat_eq t.field 2 then primitives.Source t.value else primitives.Field t))

abbrev pub tested_by : Relation → FieldTest → Primitive
tested_by relations.Exists t = if nat_eq t.field 11 then primitives.Vlan else primitives.Field t
tested_by relations.Equal t =
    if nat_eq t.count 0 && nat_eq t.mask all_bits then equal_to t else primitives.Field t
tested_by _ t = primitives.Field t

-- the primitive of a test of a field
abbrev pub tested : FieldTest → Primitive
tested t = if nat_le 253 t.field then primitives.Frame t else tested_by t.relation t

-- the test that there is a value
abbrev pub existence_of : Subject → FieldTest
existence_of s = test_with s all_bits relations.Exists (record { len = 0; number = 0 })
