-- Where the ranges of an object are in its frame.
use Rattle.std.specs.Prelude.{ℕ, ◌+◌, ◌*◌, ◌^◌, List, [], ◌∷◌, ◌++◌, Option, Some, None, unwrap_or, Result, Ok, Err, nat_lt, if◌then◌else◌}
use Rattle.std.specs.Option.{is_some}
use Rattle.serde_json.specs.Data.{Data}
use Rattle.serde_json.specs.Find.{as_object}
use Rattle.ether_fields.specs.declared.kind.Kind.{Kind}
use Rattle.ether_fields.specs.Rows.{Row}
use Rattle.ether_fields.specs.Fields.{section_rows}
use Rattle.ether_fields.specs.Places.{bits_of}
use Rattle.ether_fields.specs.declared.part.Part.TheVariants.{Header}
use Rattle.ether_fields.specs.declared.section.Section.{Section}
use Rattle.ether_make.specs.declared.range.NumberRange.{NumberRange}
use Rattle.ether_make.specs.declared.refusal.Reason.{Reason}
use Rattle.ether_make.specs.declared.refusal.Reason.TheVariants.{NotARange}
use Rattle.ether_make.specs.declared.sizes.Lengths.{Lengths}
use Rattle.ether_make.specs.declared.slot.Slot.{Slot}
use Rattle.ether_make.specs.Headers.{part, section_in, told}
use Rattle.ether_make.specs.Objects.{given}
use Rattle.ether_make.specs.Ranges.{range}
use Rattle.ether_make.specs.Refusals.{Meaning}
use Rattle.ether_make.specs.Sizes.{lengths_of}

-- What was found in headers: the slots of their ranges, how many bits the headers have, and how many combinations the
-- numbers that are counted have; 0 if 64 bits do not count them.
pub record Found : Type 0 where
  pub slots : List Slot
  pub bits : ℕ
  pub combinations : ℕ

abbrev pub nothing : Found
nothing = record { slots = []; bits = 0; combinations = 1 }

abbrev pub and_then : {X Y : Type 0} → Meaning X → (X → Meaning Y) → Meaning Y
and_then (Err r) next = Err r
and_then (Ok x) next = next x

-- numbers that are drawn make no combinations
abbrev pub choices : NumberRange → ℕ
choices r = if r.is_random then 1 else r.last + 1

-- combinations with those of a range more; 0 if 64 bits do not count them
abbrev pub combined : (combinations : ℕ) → NumberRange → ℕ
combined combinations r =
    if nat_lt (combinations * choices r) (2 ^ 64) then combinations * choices r else 0

-- ---- a field

abbrev pub with_slot : (found : Found) → (len : ℕ) → NumberRange → Result Found Reason
with_slot found len r =
    Ok (record found {
      slots =
          found.slots
          ++ record { at = found.bits; len = len; range = r; below = found.combinations } ∷ [];
      combinations = combined found.combinations r;
    })

abbrev pub with_range : (found : Found) → (len : ℕ) → Option NumberRange → Result Found Reason
with_range found len None = Err NotARange
with_range found len (Some r) = with_slot found len r

-- an object in place of a value is a range
abbrev pub ranged : (found : Found) → Kind → (len : ℕ) → Option Data → Result Found Reason
ranged found kind len None = Ok found
ranged found kind len (Some d) = if is_some (as_object d) then with_range found len (range kind len d) else Ok found

abbrev pub longer : (len : ℕ) → Found → Found
longer len found = record found { bits = found.bits + len }

abbrev pub lengthened : (len : ℕ) → Result Found Reason → Result Found Reason
lengthened len (Err reason) = Err reason
lengthened len (Ok found) = Ok (longer len found)

-- a field with this number of bits, or one that is not there
abbrev pub field_found : Lengths → Data → Row → (len : Option ℕ) → Found → Result Found Reason
field_found lengths d r None found = Ok found
field_found lengths d r (Some len) found =
    lengthened len (ranged found r.kind (unwrap_or (part lengths r.number) len) (given r.name d))

-- ---- headers

abbrev pub after_field : (header : ℕ) → Lengths → Data → Row → Found → Meaning Found
after_field header lengths d r found =
    told (Some header) r.name (field_found lengths d r (bits_of (Header lengths.sizes) r.extent) found)

abbrev pub after_fields : (header : ℕ) → Lengths → Data → List Row → Found → Meaning Found
after_fields header lengths d [] found = Ok found
after_fields header lengths d (r ∷ rs) found =
    and_then (after_field header lengths d r found) (after_fields header lengths d rs)

abbrev pub after_section : (header : ℕ) → Data → Result Section Reason → Found → Meaning Found
after_section header d (Err reason) found = Ok found
after_section header d (Ok s) found = after_fields header (lengths_of d) d (section_rows s) found

abbrev pub after_headers : (header : ℕ) → List Data → Found → Meaning Found
after_headers header [] found = Ok found
after_headers header (d ∷ ds) found =
    and_then (after_section header d (section_in d) found) (after_headers (header + 1) ds)
