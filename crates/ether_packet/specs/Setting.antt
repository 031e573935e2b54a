-- Changing a VLAN tag in place, and the ether type that announces it.
use Rattle.std.specs.Prelude.{◌≡◌, ◌≢◌, ℕ, ◌-◌, ◌≤◌, List, [], ◌∷◌, ◌++◌, true, false}
use Rattle.std.specs.List.{All}
use Rattle.etherparse.specs.Bytes.{spelled, overwritten}
use Rattle.etherparse.specs.Macsec.{SecTagValue}
use Rattle.etherparse.specs.Vlan.{VlanValue, is_vlan_ether_type, vlan_bytes, vlan_view}
use Rattle.etherparse.specs.Header.{Header}
use Rattle.etherparse.specs.Header as headers
use Rattle.ether_peel.specs.Grammar.Expectation.{Expectation}
use Rattle.ether_peel.specs.Grammar.Places.{place}
use Rattle.ether_peel.specs.Grammar.Stack.{Ending, Walk}
use Rattle.ether_packet.specs.declared.setting.PlacedVlan.{PlacedVlan}
use Rattle.ether_packet.specs.declared.tag_error.TagError.{TagError}
use Rattle.ether_packet.specs.declared.tag_error.TagError.TheVariants as errors
use Rattle.ether_packet.specs.Getters.{vlan_ids_of}
use Rattle.ether_packet.specs.Replacing.{ext_count, IsExtAt}
use Rattle.ether_packet.specs.TypedLink.{with_type}

-- A frame has a VLAN tag at an index of its extensions, which is changed. Only the bytes of that tag change, and the
-- walk has all other headers and the ending as before.
pub record SetsTag (start : Expectation) (old : List ℕ) (hs : List Header) (e : Ending) (i : ℕ) (change : VlanValue
    → VlanValue) (new : List ℕ)
    : Type 0 where
  pub front : List Header
  pub tag : VlanValue
  pub later : List Header
  pub found : IsExtAt hs i front (headers.Vlan tag) later
  pub bytes : new ≡ overwritten old (place 0 front) (vlan_bytes (change tag))
  pub walk : Walk start new (front ++ headers.Vlan (change tag) ∷ later) e

-- There is no VLAN tag at the index: there are too few extensions, or the one at the index is a SecTag.
pub data RefusesTag (hs : List Header) (i : ℕ) : TagError → Type 0 where
  none : ext_count hs ≤ i → RefusesTag hs i (errors.NoLinkExt (ext_count hs))
  sec_tag : (front : List Header) (m : SecTagValue) (later : List Header)
      → IsExtAt hs i front (headers.Macsec m) later → RefusesTag hs i errors.NoVlan

-- A frame has a VLAN tag at an index of its extensions, and a header before it, whose last two bytes announce the tag.
-- Only these two bytes change, and the walk has all other headers and the ending as before.
pub record SetsTpid (start : Expectation) (old : List ℕ) (hs : List Header) (e : Ending) (i tpid : ℕ) (new : List ℕ)
    : Type 0 where
  pub front : List Header
  pub before : Header
  pub tag : VlanValue
  pub later : List Header
  pub found : IsExtAt hs i (front ++ before ∷ []) (headers.Vlan tag) later
  pub announces : is_vlan_ether_type tpid ≡ true
  pub bytes : new ≡ overwritten old (place 0 (front ++ before ∷ []) - 2) (spelled 2 tpid)
  pub walk : Walk start new (front ++ with_type before tpid ∷ headers.Vlan tag ∷ later) e

-- The ether type is not set: it does not announce a VLAN tag; or there is no VLAN tag at the index; or the frame
-- begins with that tag.
pub data RefusesTpid (hs : List Header) (i tpid : ℕ) : TagError → Type 0 where
  other_tpid : is_vlan_ether_type tpid ≡ false → RefusesTpid hs i tpid (errors.Tpid (record { 0 = tpid }))
  tag : (error : TagError) → is_vlan_ether_type tpid ≡ true → RefusesTag hs i error → RefusesTpid hs i tpid error
  unannounced : (v : VlanValue) (later : List Header)
      → is_vlan_ether_type tpid ≡ true → IsExtAt hs i [] (headers.Vlan v) later
      → RefusesTpid hs i tpid errors.Unannounced

-- ---- the outermost one with an identifier

-- no VLAN tag of these headers has this identifier
abbrev pub LacksVlan : List Header → (vid : ℕ) → Type 0
LacksVlan hs vid = All (λ id. id ≢ vid) (vlan_ids_of hs)

-- The extension at the index is a VLAN tag with this identifier, and no VLAN tag before it has the identifier.
pub record FindsVlan (hs : List Header) (vid i : ℕ) : Type 0 where
  pub front : List Header
  pub tag : VlanValue
  pub later : List Header
  pub found : IsExtAt hs i front (headers.Vlan tag) later
  pub has : tag.vid ≡ vid
  pub outermost : LacksVlan front vid

-- ---- how it is found

-- the extension at the index is this VLAN tag, at this offset
pub record IsPlacedVlan (hs : List Header) (i : ℕ) (f : PlacedVlan) : Type 0 where
  pub front : List Header
  pub later : List Header
  pub found : IsExtAt hs i front (headers.Vlan (vlan_view f.tag)) later
  pub begins : f.at ≡ place 0 front
