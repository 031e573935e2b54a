-- Sets of what VLAN tags have: a bit for each identifier, and a truth for each ether type that announces a VLAN tag.
use Rattle.std.specs.Prelude.{◌≡◌, ℕ, ◌/◌, ◌%◌, ◌<◌, List, length, get_or, Option, Some, None, Bool, true, false, nat_eq, ◌||◌, if◌then◌else◌}
use Rattle.std.specs.Int.{bit_at}
use Rattle.etherparse.specs.Vlan.{is_vlan_ether_type}
use Rattle.ether_filter.specs.declared.tag_marks.TagTypes.{TagTypes}

-- there is a number, and it is this one
abbrev pub is_some_number : ℕ → Option ℕ → Bool
is_some_number n None = false
is_some_number n (Some other) = nat_eq n other

-- the bit of an identifier is 1: bit n % 64 of word n / 64
abbrev pub has_bit : List ℕ → ℕ → Bool
has_bit words n = nat_eq (bit_at (get_or words (n / 64) 0) (n % 64)) 1

abbrev pub has_tag_type : TagTypes → ℕ → Bool
has_tag_type types n =
    if nat_eq n 0x8100 then types.customer
    else (if nat_eq n 0x88A8 then types.service else (if nat_eq n 0x9100 then types.double else false))

-- ---- after a further tag

-- one more identifier has its bit, if there is a word for it
abbrev pub SetsBit : ℕ → (old new : List ℕ) → Type 0
SetsBit id old new = id / 64 < length old → (n : ℕ) → has_bit new n ≡ (has_bit old n || nat_eq n id)

-- one more ether type is among them, if it announces a VLAN tag
abbrev pub SetsType : Option ℕ → (old new : TagTypes) → Type 0
SetsType number old new =
    (n : ℕ) → is_vlan_ether_type n ≡ true → has_tag_type new n ≡ (has_tag_type old n || is_some_number n number)
