-- What the missing bytes of a packet can make of a primitive.
use Rattle.std.specs.Prelude.{◌≡◌, ◌↔◌, List, Bool, IsTrue, true, false}
use Rattle.std.specs.List.{list_any}
use Rattle.etherparse.specs.Header.{Header}
use Rattle.ether_peel.specs.Grammar.Stack.{Ending}
use Rattle.ether_filter.specs.declared.packet.Packet.{Packet}
use Rattle.ether_filter.specs.declared.can.Can.{Can}
use Rattle.ether_filter.specs.declared.possible.Told.{Told}
use Rattle.ether_filter.specs.declared.prospect.OpenKind.{OpenKind}
use Rattle.ether_filter.specs.declared.prospect.OpenKind.TheVariants as open_kinds
use Rattle.ether_filter.specs.declared.primitive.Primitive.{Primitive}
use Rattle.ether_filter.specs.Primitives.{is_tag, walked, Matches}
use Rattle.ether_filter.specs.Deciding.{is_refused}
use Rattle.ether_filter.specs.Later.{SomeCompletion}

-- the open unit is a VLAN tag
abbrev pub is_vlan : OpenKind → Bool
is_vlan open_kinds.Vlan = true
is_vlan _ = false

-- .. a SecTag
abbrev pub is_macsec : OpenKind → Bool
is_macsec open_kinds.Macsec = true
is_macsec _ = false

-- .. an Ethernet II header
abbrev pub is_ethernet2 : OpenKind → Bool
is_ethernet2 open_kinds.Ethernet2 = true
is_ethernet2 _ = false

-- some completed packet matches exactly if it can match, and some does not exactly if it can fail
pub record IsPossible (packet : Packet) (primitive : Primitive) (can : Can) : Type 0 where
  pub matches : IsTrue can.matches ↔ SomeCompletion packet (Matches primitive)
  pub fails : IsTrue can.fails ↔ SomeCompletion packet (λ w. Matches primitive w → ⊥)

-- what these headers alone say: whether they match the primitive, and have a VLAN tag
pub record AreTold (packet : Packet) (hs : List Header) (primitive : Primitive) (told : Told) : Type 0 where
  pub is_match : (e : Ending) → is_refused primitive ≡ false
      → IsTrue told.is_match ↔ Matches primitive (walked packet hs e)
  pub has_tag : IsTrue told.has_tag ↔ IsTrue (list_any is_tag hs)
