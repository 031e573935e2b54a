-- Where the fields of a header are in its bits, and those of what follows its payload.
use Rattle.std.specs.Prelude.{ℕ, ◌+◌, ◌*◌, ◌/◌, ◌%◌, ◌-◌, ◌^◌, List, [], ◌∷◌, ◌++◌, length, Option, Some, None, unwrap_or, if◌then◌else◌}
use Rattle.etherparse.specs.Bytes.{number}
use Rattle.ether_fields.specs.Rows.{Row}
use Rattle.ether_fields.specs.declared.extent.Extent.{Extent}
use Rattle.ether_fields.specs.declared.extent.Extent.TheVariants.{Bits, HardwareAddress, ProtocolAddress, SecureChannel, PayloadType, CheckSequence}
use Rattle.ether_fields.specs.declared.field_place.FieldPlace.{FieldPlace}
use Rattle.ether_fields.specs.declared.part.Part.{Part}
use Rattle.ether_fields.specs.declared.part.Part.TheVariants.{Header, Trailer}

-- how many bits a field has in a header or after its payload, if it is there
abbrev pub bits_of : Part → Extent → Option ℕ
bits_of (Header sizes) (Bits n) = Some n
bits_of (Header sizes) HardwareAddress = Some sizes.hardware
bits_of (Header sizes) ProtocolAddress = Some sizes.protocol
bits_of (Header sizes) SecureChannel = if sizes.has_sci then Some 64 else None
bits_of (Header sizes) PayloadType = if sizes.has_payload_type then Some 16 else None
bits_of Trailer CheckSequence = Some 32
bits_of part extent = None

abbrev pub place_if : (number first : ℕ) → Option ℕ → List FieldPlace
place_if number first None = []
place_if number first (Some len) = record { number = number; first = first; len = len } ∷ []

-- the places of fields: each begins where the one before it ends
abbrev pub placed : Part → (first : ℕ) → List Row → List FieldPlace
placed part first [] = []
placed part first (r ∷ rs) =
    place_if r.number first (bits_of part r.extent)
    ++ placed part (first + unwrap_or (bits_of part r.extent) 0) rs

-- the number in these bits of a list; the first bit of a byte is its most significant one
abbrev pub bits_number : List ℕ → (first len : ℕ) → ℕ
bits_number list first len = number list / 2 ^ (8 * length list - (first + len)) % 2 ^ len
