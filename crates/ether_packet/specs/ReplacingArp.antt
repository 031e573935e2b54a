-- Replacing the ARP packet of a frame in place.
use Rattle.std.specs.Prelude.{◌≡◌, ℕ, List, [], ◌∷◌, ◌++◌, length, Bool, true, false, ◌||◌}
use Rattle.etherparse.specs.Bytes.{overwritten}
use Rattle.etherparse.specs.Arp.{ArpValue, arp_bytes}
use Rattle.etherparse.specs.Kind.{Kind}
use Rattle.etherparse.specs.Kind as kinds
use Rattle.etherparse.specs.Header.{Header, kind_of, FitsHeader}
use Rattle.etherparse.specs.Header as headers
use Rattle.ether_peel.specs.Grammar.Expectation.{Expectation}
use Rattle.ether_peel.specs.Grammar.Places.{place}
use Rattle.ether_peel.specs.Grammar.Stack.{Ending, Walk}
use Rattle.ether_packet.specs.declared.difference.Difference.{Difference}
use Rattle.ether_packet.specs.declared.replace_error.ReplaceError.{ReplaceError}
use Rattle.ether_packet.specs.declared.replace_error.ReplaceError.TheVariants as errors
use Rattle.ether_packet.specs.Replacing.{Agree, Differs}

abbrev pub is_arp : Kind → Bool
is_arp kinds.Arp = true
is_arp _ = false

-- one of these headers is an ARP packet
abbrev pub has_arp : List Header → Bool
has_arp [] = false
has_arp (h ∷ hs) = is_arp (kind_of h) || has_arp hs

-- The last of these headers is an ARP packet, which ends at the offset `end`, and g can replace it.
pub record TakesArp (hs : List Header) (g : ArpValue) (end : ℕ) : Type 0 where
  pub front : List Header
  pub replaced : ArpValue
  pub parts : hs ≡ front ++ headers.Arp replaced ∷ []
  pub same : Agree (headers.Arp g) (headers.Arp replaced)
  pub ends : end ≡ place 0 hs

-- In a list with the headers hs and this ending g replaces the ARP packet, which is the last header. Only the bytes of
-- that packet change, and the walk has all other headers and the ending as before.
pub record ReplacesArp (start : Expectation) (old : List ℕ) (hs : List Header) (e : Ending) (g : ArpValue)
    (new : List ℕ) : Type 0 where
  pub front : List Header
  pub replaced : ArpValue
  pub parts : hs ≡ front ++ headers.Arp replaced ∷ []
  pub same : Agree (headers.Arp g) (headers.Arp replaced)
  pub fits : FitsHeader (headers.Arp g)
  pub bytes : new ≡ overwritten old (place 0 front) (arp_bytes g)
  pub len : length new ≡ length old
  pub walk : Walk start new (front ++ headers.Arp g ∷ []) e

-- g does not replace an ARP packet: there is none, or the lengths of the addresses differ, and this is the first such
-- difference
pub data RefusesArp (hs : List Header) (g : ArpValue) : ReplaceError → Type 0 where
  no_arp : has_arp hs ≡ false → RefusesArp hs g errors.NoArp
  other_arp : (front : List Header) (a : ArpValue) (d : Difference)
      → hs ≡ front ++ headers.Arp a ∷ [] → Differs (headers.Arp g) (headers.Arp a) d
      → RefusesArp hs g (errors.SaysOther d)
