-- Which values the fields of an open unit can have.
use Rattle.std.specs.Prelude.{◌≡◌, ◌↔◌, ℕ, ◌+◌, ◌-◌, ◌/◌, ◌%◌, ◌^◌, ◌<◌, ◌≤◌, List, length, get_or, slice_range, Bool, IsTrue, true, false, ◌||◌}
use Rattle.etherparse.specs.Bytes.{number}
use Rattle.etherparse.specs.Ethernet2.{ethernet2_of}
use Rattle.etherparse.specs.Vlan.{vlan_of}
use Rattle.etherparse.specs.Header.{Header}
use Rattle.etherparse.specs.Header as headers
use Rattle.ether_filter.specs.declared.can.Can.{Can}
use Rattle.ether_filter.specs.declared.primitive.Primitive.{Primitive}
use Rattle.ether_filter.specs.declared.primitive.Primitive.TheVariants as primitives
use Rattle.ether_filter.specs.declared.prospect.OpenKind.{OpenKind}
use Rattle.ether_filter.specs.declared.prospect.OpenKind.TheVariants as open_kinds
use Rattle.ether_filter.specs.Deciding.{is_of_link, is_of_field}
use Rattle.ether_filter.specs.Primitives.{is_from, is_to, is_to_group}
use Rattle.ether_filter.specs.Prospects.{Continues}

-- the test that a primitive makes of an Ethernet II header
abbrev pub link_test : Primitive → Header → Bool
link_test (primitives.Source address) h = is_from address h
link_test (primitives.Destination address) h = is_to address h
link_test (primitives.Host address) h = is_from address h || is_to address h
link_test primitives.Broadcast h = is_to (2 ^ 48 - 1) h
link_test primitives.Multicast h = is_to_group h
link_test primitive h = false

-- some bytes that go on from the known ones have it exactly if it can hold, and some lack it exactly if it can fail
pub record IsAmong (known : List ℕ) (room : ℕ) (Have : List ℕ → Type 0) (can : Can) : Type 0 where
  pub matches : IsTrue can.matches ↔ ((bytes : List ℕ) × Continues known room bytes × Have bytes)
  pub fails : IsTrue can.fails ↔ ((bytes : List ℕ) × Continues known room bytes × (Have bytes → ⊥))

-- ---- an address in an Ethernet II header

-- the number of the six bytes at a place, of bytes that go on from the known ones with those of a wanted address
abbrev pub IsNearest : (known : List ℕ) (place address n : ℕ) → Type 0
IsNearest known place address n =
    (room : ℕ) (bytes : List ℕ) → Continues known room bytes → place + 6 ≤ room
    → ((j : ℕ) → j < 6 → length known ≤ place + j → get_or bytes (place + j) 0 ≡ address / 256 ^ (5 - j) % 256)
    → number (slice_range bytes place (place + 6)) ≡ n

-- bytes that go on from the known ones with another last byte of the address have another address
abbrev pub LacksAddress : (known : List ℕ) (place address : ℕ) → Type 0
LacksAddress known place address =
    (room : ℕ) (bytes : List ℕ) → Continues known room bytes → place + 6 ≤ room
    → (length known ≤ place + 5 → get_or bytes (place + 5) 0 ≡ address % 256 → ⊥)
    → number (slice_range bytes place (place + 6)) ≡ address → ⊥

-- ---- the fields of the open unit

-- which identifiers are possible
abbrev pub FitsId : (known : List ℕ) (id : ℕ) → Can → Type 0
FitsId known id own = (room : ℕ) → 4 ≤ room → IsAmong known room (λ bytes. (vlan_of bytes).vid ≡ id) own

-- .. that of a VLAN tag, if the primitive asks about it
abbrev pub FitsTag : Primitive → (known : List ℕ) → Can → Type 0
FitsTag (primitives.VlanId id) known own = FitsId known id own
FitsTag (primitives.OuterVlan id) known own = FitsId known id own
FitsTag (primitives.InnerVlan id) known own = FitsId known id own
FitsTag primitive known own = Unit {0}

-- .. the addresses of an Ethernet II header
abbrev pub FitsLink : Primitive → (known : List ℕ) → Can → Type 0
FitsLink primitive known own =
    is_of_link primitive ≡ true → is_of_field primitive ≡ false → (room : ℕ) → 14 ≤ room
    → IsAmong known room (λ bytes. IsTrue (link_test primitive (headers.Ethernet2 (ethernet2_of bytes)))) own

-- what the fields of the unit can make of a primitive about them
abbrev pub FitsOwn : Primitive → OpenKind → (known : List ℕ) → Can → Type 0
FitsOwn primitive open_kinds.Ethernet2 known own = FitsLink primitive known own
FitsOwn primitive open_kinds.Vlan known own = FitsTag primitive known own
FitsOwn primitive kind known own = Unit {0}
