-- The bytes that complete a unit if the list has only its first bytes.
use Rattle.std.specs.Prelude.{◌≡◌, ℕ, zero, ◌+◌, ◌-◌, ◌*◌, ◌≤◌, List, [], ◌∷◌, ◌++◌, length, replicate, slice_index, Option, Some, None, unwrap_or, Bool, nat_eq, ◌||◌, ◌&&◌, if◌then◌else◌}
use Rattle.etherparse.specs.Types.LenSource.{LenSource}
use Rattle.etherparse.specs.Types.Layer.{Layer}
use Rattle.etherparse.specs.Types.Layer.TheVariants as layers
use Rattle.etherparse.specs.Bytes.{IsBytes}
use Rattle.etherparse.specs.Macsec.{SecTagFront, BeginsSecTag, sec_tag_len, known_payload_len}
use Rattle.etherparse.specs.Kind.{Kind}
use Rattle.etherparse.specs.Header.{Header}
use Rattle.etherparse.specs.Refusal.{Length, Refuses}
use Rattle.ether_peel.specs.Grammar.Window.{within}
use Rattle.ether_peel.specs.Grammar.Expectation.{Expectation}
use Rattle.ether_peel.specs.Grammar.Stack.{Ending, last_window, Walk}
use Rattle.ether_peel.specs.Grammar.Endings.{refusal_of, OpenRefusal}

-- ---- what can be completed

-- a unit, by its layer and the number of its bytes that are there; a SecTag must have six, all but the SCI and the
-- ether type
pub data CanBeCompleted : Layer → ℕ → Type 0 where
  ethernet2 : (len : ℕ) → CanBeCompleted layers.Ethernet2Header len
  vlan : (len : ℕ) → CanBeCompleted layers.VlanHeader len
  macsec : (len : ℕ) → 6 ≤ len → CanBeCompleted layers.MacsecHeader len
  arp : (len : ℕ) → CanBeCompleted layers.Arp len

-- ---- the whole unit

-- Where the ether type is in a SecTag, which has one exactly if E and C are 0: after the packet number, and the SCI if
-- there is one (IEEE 802.1AE, 9.3).
abbrev pub type_place : (encrypted changed sci_present : ℕ) → Option ℕ
type_place zero zero sci_present = Some (6 + 8 * sci_present)
type_place _ _ sci_present = None

-- A unit of a layer that begins with these bytes: the number of its bytes, and the place of its ether type if it has
-- one.
pub data Plan (begun : List ℕ) : Layer → ℕ → Option ℕ → Type 0 where
  -- two addresses of 6 bytes and the ether type (IEEE 802.3, 3.2.3 to 3.2.6)
  ethernet2 : Plan begun layers.Ethernet2Header 14 (Some 12)
  -- tag control information and the ether type (IEEE 802.1Q, 9.6)
  vlan : Plan begun layers.VlanHeader 4 (Some 2)
  -- the header, and the payload if the short length names its length (IEEE 802.1AE, 9.3 and 9.7)
  macsec : (t : SecTagFront) → BeginsSecTag begun t
      → Plan begun layers.MacsecHeader (sec_tag_len t + unwrap_or (known_payload_len t) 0)
      (type_place t.encrypted t.changed t.sci_present)
  -- eight bytes and four addresses, whose two sizes are the fifth and the sixth byte (RFC 826, "Packet format"); a size
  -- that is not there counts as 0
  arp : Plan begun layers.Arp (8 + 2 * slice_index begun 4 + 2 * slice_index begun 5) None

-- ---- the bytes

-- a 0 after this byte would make an ether type that announces a VLAN tag, 0x8100 or 0x9100
abbrev pub begins_vlan_type : ℕ → Bool
begins_vlan_type byte = nat_eq byte 0x81 || nat_eq byte 0x91

-- 0, but 1 after the first byte of an ether type that a 0 would make announce a VLAN tag
abbrev pub first_filled : List ℕ → Option ℕ → ℕ
first_filled begun None = 0
first_filled begun (Some place) = if nat_eq (length begun) (place + 1) && begins_vlan_type (slice_index begun place)
    then 1 else 0

-- the bytes up to a length; those after the first are 0
abbrev pub fill : List ℕ → ℕ → Option ℕ → List ℕ
fill begun total place = first_filled begun place ∷ replicate (total - length begun - 1) 0

-- ---- what they complete

-- these bytes complete a list
pub record Completes (start : Expectation) (list bytes : List ℕ) : Type 0 where
  -- its walk ends in an open refusal of a unit that can be completed
  pub headers : List Header
  pub ending : Ending
  pub walk : Walk start list headers ending
  pub refusal : OpenRefusal ending
  pub completable : CanBeCompleted refusal.layer refusal.len
  -- they are the fill of that unit
  pub total : ℕ
  pub place : Option ℕ
  pub plan : Plan (within list (last_window ending)) refusal.layer total place
  pub whole : length (within list (last_window ending)) + length bytes ≡ total
  pub is : bytes ≡ fill (within list (last_window ending)) total place
  -- the list followed by them is accepted, with exactly one further header
  pub unit : Header
  pub accepted : Ending
  pub walk_on : Walk start (list ++ bytes) (headers ++ unit ∷ []) accepted
  pub not_refused : refusal_of accepted ≡ None
  -- no fewer bytes after the list make it accepted
  pub least : (more : List ℕ) (ks : List Header) (f : Ending) → IsBytes more → Walk start (list ++ more) ks f
      → refusal_of f ≡ None → length bytes ≤ length more

-- its walk ends in no open refusal of a unit that can be completed
abbrev pub NothingToComplete : Expectation → List ℕ → Type 0
NothingToComplete start list = (hs : List Header) (e : Ending) → Walk start list hs e → (o : OpenRefusal e)
    → CanBeCompleted o.layer o.len → ⊥

-- ---- the steps of the computation

-- bytes are refused for their number as the first of a unit of a layer
abbrev pub IsShort : List ℕ → Layer → Type 0
IsShort bytes layer = (bound : LenSource) × (kind : Kind) × (required : ℕ) × (len : ℕ) × (source : LenSource)
    × Refuses bound bytes kind (Length required len source layer)
