-- The bits of a field.
use Rattle.std.specs.Prelude.{ℕ, ◌*◌, ◌-◌, ◌^◌, List, [], ◌∷◌, ◌++◌, ◌||◌, length, Bool, true, false, Option, Some, None, Result, Ok, Err, unwrap_or, nat_eq, nat_lt, if◌then◌else◌}
use Rattle.serde_json.specs.Data.{Data}
use Rattle.serde_json.specs.Find.{as_str}
use Rattle.ether_fields.specs.declared.kind.Kind.{Kind}
use Rattle.ether_fields.specs.declared.kind.Kind.TheVariants as kinds
use Rattle.ether_fields.specs.declared.extent.Extent.{Extent}
use Rattle.ether_fields.specs.declared.extent.Extent.TheVariants.{Computed}
use Rattle.ether_make.specs.declared.refusal.Reason.{Reason}
use Rattle.ether_make.specs.declared.refusal.Reason.TheVariants as reasons
use Rattle.ether_make.specs.Bits.{bits, bits_of}
use Rattle.ether_make.specs.Objects.{number_of}
use Rattle.ether_make.specs.Texts.{colon_bytes, dotted_bytes}

-- ---- a value that is given

-- a number that fits
abbrev pub number_bits : (len : ℕ) → Option ℕ → Result (List Bool) Reason
number_bits len None = Err reasons.NotANumber
number_bits len (Some n) = if nat_lt n (2 ^ len) then Ok (bits len n) else Err reasons.TooBig

-- whether a text has a dot (46)
abbrev pub has_dot : List ℕ → Bool
has_dot [] = false
has_dot (c ∷ cs) = nat_eq c 46 || has_dot cs

-- an address of a protocol may have dots
abbrev pub text_bytes : Kind → List ℕ → Option (List ℕ)
text_bytes kinds.ProtocolAddress text = if has_dot text then dotted_bytes text else colon_bytes text
text_bytes kind text = colon_bytes text

-- as many bits as a text has to spell, and zeros in the rest of the field
abbrev pub bytes_bits : (len spelled : ℕ) → Option (List ℕ) → Result (List Bool) Reason
bytes_bits len spelled None = Err reasons.NotBytes
bytes_bits len spelled (Some bytes) =
    if nat_eq (8 * length bytes) spelled then Ok (bits_of bytes ++ bits (len - spelled) 0) else Err reasons.OtherLength

abbrev pub text_bits : Kind → (len spelled : ℕ) → Option (List ℕ) → Result (List Bool) Reason
text_bits kind len spelled None = Err reasons.NotAText
text_bits kind len spelled (Some text) = bytes_bits len spelled (text_bytes kind text)

-- bytes are given as a text, and all else as a number
abbrev pub is_text : Kind → Bool
is_text kinds.Bytes = true
is_text kinds.ProtocolAddress = true
is_text kind = false

abbrev pub given_bits : Kind → (len spelled : ℕ) → Data → Result (List Bool) Reason
given_bits kind len spelled d =
    if is_text kind then text_bits kind len spelled (as_str d) else number_bits len (number_of d)

-- ---- a field

-- a field that a header does not have may not be given; a member that only describes is not used
abbrev pub absent_bits : Extent → Option Data → Result (List Bool) Reason
absent_bits Computed value = Ok []
absent_bits extent None = Ok []
absent_bits extent (Some d) = Err reasons.Absent

-- the value that is given, or the one that its rule says
abbrev pub present_bits : Kind → (len spelled : ℕ) → Option Data → (rule : ℕ) → Result (List Bool) Reason
present_bits kind len spelled None rule = Ok (bits len rule)
present_bits kind len spelled (Some d) rule = given_bits kind len spelled d

-- a field with this number of bits, or one that is not there; a text spells the whole field, or as many bits as `part`
-- says
abbrev pub field_bits : Kind → Extent → (len part : Option ℕ) → Option Data → (rule : ℕ) → Result (List Bool) Reason
field_bits kind extent None part value rule = absent_bits extent value
field_bits kind extent (Some len) part value rule = present_bits kind len (unwrap_or part len) value rule
