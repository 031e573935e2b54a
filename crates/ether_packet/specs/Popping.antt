-- Taking a VLAN tag off in place.
use Rattle.std.specs.Prelude.{◌≡◌, ℕ, ◌+◌, ◌-◌, List, [], ◌∷◌, take, drop, true, false}
use Rattle.etherparse.specs.Bytes.{overwritten}
use Rattle.etherparse.specs.Vlan.{VlanValue, is_vlan_ether_type}
use Rattle.etherparse.specs.Header.{Header, header_len}
use Rattle.etherparse.specs.Header as headers
use Rattle.ether_peel.specs.Grammar.Expectation.{Expectation}
use Rattle.ether_peel.specs.Grammar.Places.{moved_ending}
use Rattle.ether_peel.specs.Grammar.Stack.{Ending, Walk}
use Rattle.ether_packet.specs.declared.tag_error.TagError.{TagError}
use Rattle.ether_packet.specs.declared.tag_error.TagError.TheVariants as errors
use Rattle.ether_packet.specs.TypedLink.{type_of_link, with_type, BeginsTyped, RefusesTyped}

-- A frame begins with a link's header and a VLAN tag. Only the bytes of the link before its type are moved, by four
-- bytes toward the end, and the frame then begins four bytes later. Its walk has the link with the type of the tag;
-- all later headers and the ending are as before, at offsets lower by four.
pub record IsPopped (start : Expectation) (old : List ℕ) (hs : List Header) (e : Ending) (tag : VlanValue)
    (new : List ℕ)
    : Type 0 where
  pub link : Header
  pub later : List Header
  pub begins : BeginsTyped hs link (headers.Vlan tag ∷ later)
  pub bytes : new ≡ overwritten old 4 (take (header_len link - 2) old)
  pub walk : Walk start (drop 4 new) (with_type link tag.ether_type ∷ later)
      (moved_ending (header_len link + 4) (header_len link) e)

-- No tag is taken off: the frame does not begin with a link's header and an ether type; or that does not announce a
-- VLAN tag; or the walk ends before the tag, which is cut short.
pub data RefusesPop (hs : List Header) : TagError → Type 0 where
  link : (error : TagError) → RefusesTyped hs error → RefusesPop hs error
  no_vlan : (link : Header) (later : List Header)
      → BeginsTyped hs link later → is_vlan_ether_type (type_of_link link) ≡ false → RefusesPop hs errors.NoVlan
  cut_vlan : (link : Header) → BeginsTyped hs link [] → is_vlan_ether_type (type_of_link link) ≡ true
      → RefusesPop hs errors.CutVlan

-- ---- how it is found

-- the headers begin with a link's, of 14 or 16 bytes, and a VLAN tag
pub record IsTagged (hs : List Header) (at : ℕ) : Type 0 where
  pub link : Header
  pub tag : VlanValue
  pub later : List Header
  pub begins : BeginsTyped hs link (headers.Vlan tag ∷ later)
  pub place : at ≡ header_len link
