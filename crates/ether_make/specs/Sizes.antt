-- How many bits a header has in the fields whose length is not the same in each header, by its object.
use Rattle.std.specs.Prelude.{ℕ, ◌+◌, ◌*◌, ◌/◌, List, length, codes, Bool, true, false, not, Option, Some, None, unwrap_or, nat_eq, nat_lt, ◌&&◌, if◌then◌else◌}
use Rattle.std.specs.Option.{option_and_then, option_or, is_some}
use Rattle.serde_json.specs.Data.{Data}
use Rattle.serde_json.specs.Find.{as_str}
use Rattle.ether_fields.specs.declared.part.Sizes.{Sizes}
use Rattle.ether_make.specs.declared.sizes.Lengths.{Lengths}
use Rattle.ether_make.specs.Objects.{first_given, number_of}
use Rattle.ether_make.specs.FieldBits.{has_dot}

-- a number that fits in a byte
abbrev pub byte_size : ℕ → Option ℕ
byte_size n = if nat_lt n 256 then Some n else None

-- how many bytes a text spells: four with dots between them, or each two digits and a colon
abbrev pub text_size : List ℕ → Option ℕ
text_size text = if has_dot text then Some 4 else byte_size ((length text + 2) / 3)

abbrev pub given_size : (name : List ℕ) → Data → Option ℕ
given_size name d = option_and_then byte_size (option_and_then number_of (first_given name d))

abbrev pub address_size : (name : List ℕ) → Data → Option ℕ
address_size name d = option_and_then text_size (option_and_then as_str (first_given name d))

-- the size that is given, or that of the sender's address, or of the target's, or the usual one
abbrev pub size : (count first second : List ℕ) → (usual : ℕ) → Data → ℕ
size count first second usual d =
    unwrap_or (option_or (given_size count d) (option_or (address_size first d) (address_size second d))) usual

abbrev pub is_zero_number : Option ℕ → Bool
is_zero_number None = false
is_zero_number (Some n) = nat_eq n 0

abbrev pub is_zero_of : Option Data → Bool
is_zero_of None = true
is_zero_of (Some d) = is_zero_number (number_of d)

-- a flag that is missing, or 0
abbrev pub is_zero : (name : List ℕ) → Data → Bool
is_zero name d = is_zero_of (first_given name d)

-- A SecTag has an SCI if its SC bit is set (IEEE 802.1AE, 9.5), or if that bit is missing and an SCI is given.
abbrev pub has_sci : Data → Bool
has_sci d =
    if is_some (first_given (codes "sc") d) then not (is_zero (codes "sc") d) else is_some
    (first_given (codes "sci") d)

-- of an ARP packet the addresses (RFC 826: six bytes for Ethernet, four for IPv4); of a SecTag whether it has an SCI,
-- and whether the ether type after it can be read (IEEE 802.1AE, 9.5: E and C are 0)
abbrev pub sizes_of : Data → Sizes
sizes_of d = record {
  hardware = 8 * size (codes "hln") (codes "sha") (codes "tha") 6 d;
  protocol = 8 * size (codes "pln") (codes "spa") (codes "tpa") 4 d;
  has_sci = has_sci d;
  has_payload_type = is_zero (codes "e") d && is_zero (codes "c") d;
}

-- The length in bytes of the address of a cooked capture: the one that is given, or that of the address, or six. Its
-- field has eight bytes, also if the length says more.
abbrev pub address_len : Data → ℕ
address_len d =
    unwrap_or
    (option_or (option_and_then number_of (first_given (codes "addr_len") d)) (address_size (codes "addr") d)) 6

abbrev pub lengths_of : Data → Lengths
lengths_of d = record { sizes = sizes_of d; address = address_len d }
