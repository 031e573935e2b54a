-- The object of a packet has no range, so it means one frame.
use Rattle.std.proofs.Common.{◌≡◌, ℕ, ◌+◌, List, [], ◌∷◌, Bool, true, false, cond, Option, Some, None, unwrap_or, Result, Ok, Err, codes, bytes_eq, refl, sym, ap, ◌∙◌}
use Rattle.std.specs.Prelude.{if◌then◌else◌}
use Rattle.std.specs.Option.{option_and_then}
use Rattle.serde_json.specs.Data.{Data, Num, number, string}
use Rattle.serde_json.specs.Find.{as_array, as_object}
use Rattle.ether_base.specs.Bytes.{IsBytes}
use Rattle.ether_fields.specs.Rows.{Row}
use Rattle.ether_fields.specs.Fields.{section_rows}
use Rattle.ether_fields.specs.Places.{bits_of}
use Rattle.ether_fields.specs.declared.kind.Kind.{Kind}
use Rattle.ether_fields.specs.declared.part.Part.TheVariants.{Header}
use Rattle.ether_fields.specs.declared.section.Section.{Section}
use Rattle.ether_format.specs.Members.{Member, Value}
use Rattle.ether_format.specs.Members as values
use Rattle.ether_format.specs.Spelling.{has_date}
use Rattle.ether_format.specs.Told.{Told}
use Rattle.ether_make.specs.declared.refusal.Reason.{Reason}
use Rattle.ether_make.specs.declared.settings.Settings.{Settings}
use Rattle.ether_make.specs.declared.sizes.Lengths.{Lengths}
use Rattle.ether_make.specs.FrameLaws.{MeansOne}
use Rattle.ether_make.specs.Frames.{FrameValue, frame_meaning, padded}
use Rattle.ether_make.specs.Headers.{part, section_in, told}
use Rattle.ether_make.specs.Lines.{Progress, frames_of, time_at}
use Rattle.ether_make.specs.Objects.{given, listed, not_null}
use Rattle.ether_make.specs.PacketData.{headers_data, members_data, value_data}
use Rattle.ether_make.specs.Refusals.{Meaning, result_map}
use Rattle.ether_make.specs.Sizes.{lengths_of}
use Rattle.ether_make.specs.Slots.{Found, after_fields, after_headers, after_section, and_then, field_found, lengthened, longer, nothing, ranged}
use Rattle.ether_make.specs.Templates.{frames_from, header_objects, listed_in}
use Rattle.ether_make.proofs.DataLemmas.{latest}
use Rattle.ether_make.proofs.HeadersBack.{raw_data}
use Rattle.ether_make.proofs.SeriesLemmas.{padded-link, padded-time}
use Rattle.ether_make.proofs.TemplateLemmas.{numbered-bytes}

-- ---- members that are no objects

abbrev IsFlat : Option Data → Type 0
IsFlat o = option_and_then as_object (not_null o) ≡ None

text_or_number_flat : (b : Bool) (s : List ℕ) (n : Num) → IsFlat (Some (if b then string s else number n))
text_or_number_flat true s n = refl
text_or_number_flat false s n = refl

value_flat : (v : Value) → IsFlat (Some (value_data v))
value_flat values.Nothing = refl
value_flat (values.Number n) = refl
value_flat (values.Protocol n) = refl
value_flat (values.Flag b) = refl
value_flat (values.Bytes bytes) = refl
value_flat (values.Dotted bytes) = refl
value_flat (values.Word word) = refl
value_flat (values.Text bytes) = refl
value_flat (values.Time m) = text_or_number_flat (has_date m) _ _
value_flat (values.Within interval m) = refl

cond_flat : (b : Bool) (v : Value) (o : Option Data) → IsFlat o → IsFlat (cond b (Some (value_data v)) o)
cond_flat true v o h = value_flat v
cond_flat false v o h = h

latest_flat : (name : List ℕ) (ms : List Member) (o : Option Data) → IsFlat o → IsFlat (latest name ms o)
latest_flat name [] o h = h
latest_flat name (m ∷ ms) o h =
    latest_flat name ms (cond (bytes_eq name m.name) (Some (value_data m.value)) o)
    (cond_flat (bytes_eq name m.name) m.value o h)

given_flat : (name : List ℕ) (ms : List Member) → option_and_then as_object (given name (members_data ms)) ≡ None
given_flat name ms = ap (option_and_then as_object) (raw_data name ms) ∙ latest_flat name ms None refl

-- ---- what they leave

record Same (found : Found) (m : Meaning Found) : Type 0 where
  after : Found
  is : m ≡ Ok after
  slots : after.slots ≡ found.slots
  combinations : after.combinations ≡ found.combinations

ranged_flat : (found : Found) (kind : Kind) (len : ℕ) (o : Option Data) → option_and_then as_object o ≡ None
    → ranged found kind len o ≡ Ok found
ranged_flat found kind len None h = refl
ranged_flat found kind len (Some d) h = rw h refl

field_same : (header : ℕ) (lengths : Lengths) (ms : List Member) (r : Row) (len : Option ℕ) (found : Found)
    → Same found (told (Some header) r.name (field_found lengths (members_data ms) r len found))
field_same header lengths ms r None found = record {
  after = found;
  is = refl;
  slots = refl;
  combinations = refl;
}
field_same header lengths ms r (Some len) found = record {
  after = longer len found;
  is = ap (λ m. told (Some header) r.name (lengthened len m))
      (ranged_flat found r.kind (unwrap_or (part lengths r.number) len) (given r.name (members_data ms))
      (given_flat r.name ms));
  slots = refl;
  combinations = refl;
}

fields_same : (header : ℕ) (lengths : Lengths) (ms : List Member) (rs : List Row) (found : Found)
    → Same found (after_fields header lengths (members_data ms) rs found)
fields_same header lengths ms [] found = record {
  after = found;
  is = refl;
  slots = refl;
  combinations = refl;
}
fields_same header lengths ms (r ∷ rs) found =
    let one = field_same header lengths ms r (bits_of (Header lengths.sizes) r.extent) found in
    let more = fields_same header lengths ms rs one.after in
    record {
      after = more.after;
      is = ap (λ m. and_then m (after_fields header lengths (members_data ms) rs)) one.is ∙ more.is;
      slots = more.slots ∙ one.slots;
      combinations = more.combinations ∙ one.combinations;
    }

section_same : (header : ℕ) (ms : List Member) (s : Result Section Reason) (found : Found)
    → Same found (after_section header (members_data ms) s found)
section_same header ms (Err reason) found = record {
  after = found;
  is = refl;
  slots = refl;
  combinations = refl;
}
section_same header ms (Ok s) found = fields_same header (lengths_of (members_data ms)) ms (section_rows s) found

headers_same : (members : Told → List Member) (header : ℕ) (hs : List Told) (found : Found)
    → Same found (after_headers header (listed (headers_data members hs)) found)
headers_same members header [] found = record {
  after = found;
  is = refl;
  slots = refl;
  combinations = refl;
}
headers_same members header (h ∷ hs) found =
    let one = section_same header (members h) (section_in (members_data (members h))) found in
    let more = headers_same members (header + 1) hs one.after in
    record {
      after = more.after;
      is = ap (λ m. and_then m (after_headers (header + 1) (listed (headers_data members hs)))) one.is ∙ more.is;
      slots = more.slots ∙ one.slots;
      combinations = more.combinations ∙ one.combinations;
    }

-- ---- one frame

pub means_one : (d : Data) (members : Told → List Member) (hs : List Told) (f : FrameValue)
    → option_and_then as_array (given (codes "headers") d) ≡ Some (headers_data members hs)
    → frame_meaning d ≡ Ok f → MeansOne d f
means_one d members hs f headers meaning =
    let same = headers_same members 0 hs nothing in
    let found : after_headers 0 (header_objects d) nothing ≡ Ok same.after =
    ap (λ o. after_headers 0 (listed_in o) nothing) headers ∙ same.is in
    record {
      found = same.after;
      template =
          λ i. and_then (meaning i)
          (λ frame. result_map (λ it. record { frame = frame; found = it }) (found i));
      no_range = same.slots;
      one = same.combinations;
    }

-- .. which is written as it is
pub one_frame : (settings : Settings) (progress : Progress) (f : FrameValue) (found : Found)
    → IsBytes (padded settings.pad f).packet → settings.count ≡ None → settings.rate ≡ None → found.slots ≡ []
    → found.combinations ≡ 1
    → frames_of settings progress (record { frame = f; found = found }) ≡ padded settings.pad f ∷ []
one_frame settings progress f found bytes all own no_range one =
    let made = padded settings.pad f in
    (λ i. frames_from (unwrap_or (all i) (one i)) 0 progress.state (time_at (own i) progress.pace f.time) (no_range i)
    f.link made.packet)
    ∙ (λ i. record {
      link = sym (padded-link settings.pad f) i;
      time = sym (padded-time settings.pad f) i;
      packet = sym (numbered-bytes 0 progress.state [] made.packet made.packet bytes refl) i;
    } ∷ [])
