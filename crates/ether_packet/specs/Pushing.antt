-- Putting a VLAN tag in, in place.
use Rattle.std.specs.Prelude.{◌≡◌, ℕ, ◌+◌, ◌<◌, ◌≤◌, List, ◌∷◌, ◌++◌, length, slice_range, true, false}
use Rattle.etherparse.specs.Bytes.{spelled, overwritten}
use Rattle.etherparse.specs.Vlan.{VlanValue, is_vlan_ether_type, vlan_bytes}
use Rattle.etherparse.specs.Header.{Header, header_len}
use Rattle.etherparse.specs.Header as headers
use Rattle.ether_peel.specs.Grammar.Expectation.{Expectation}
use Rattle.ether_peel.specs.Grammar.Places.{moved_ending}
use Rattle.ether_peel.specs.Grammar.Stack.{Ending, Walk}
use Rattle.ether_packet.specs.declared.tag_error.TagError.{TagError}
use Rattle.ether_packet.specs.declared.tag_error.TagError.TheVariants as errors
use Rattle.ether_packet.specs.TypedLink.{type_of_link, with_type, BeginsTyped, RefusesTyped}

-- the four bytes that are put in: the ether type that announces the tag, and its tag control information (IEEE 802.1Q,
-- 9.4)
abbrev pub pushed_bytes : ℕ → VlanValue → List ℕ
pushed_bytes tpid tag = spelled 2 tpid ++ slice_range (vlan_bytes tag) 0 2

-- A frame begins with a link's header, after four free bytes of a buffer. Only the bytes of the link before its type
-- are moved, by four bytes toward the front, and four bytes are put in after them. The walk of the whole buffer has
-- the link with the type that announces the tag, and the tag with the type of the link; all later headers and the
-- ending are as before, at offsets higher by four.
pub record IsPushed (start : Expectation) (old : List ℕ) (hs : List Header) (e : Ending) (tag : VlanValue) (tpid : ℕ)
    (new : List ℕ)
    : Type 0 where
  pub link : Header
  pub later : List Header
  pub begins : BeginsTyped hs link later
  pub announces : is_vlan_ether_type tpid ≡ true
  pub bytes : new ≡ overwritten old 0 (slice_range old 4 (header_len link + 2) ++ pushed_bytes tpid tag)
  pub walk : Walk start new (with_type link tpid ∷ headers.Vlan (record tag { ether_type = type_of_link link }) ∷ later)
      (moved_ending (header_len link) (header_len link + 4) e)

-- No tag is put in: the ether type does not announce one; or the buffer does not have four bytes before the frame; or
-- the frame does not begin with a link's header and an ether type.
pub data RefusesPush (buffer : List ℕ) (hs : List Header) (tpid : ℕ) : TagError → Type 0 where
  other_tpid : is_vlan_ether_type tpid ≡ false → RefusesPush buffer hs tpid (errors.Tpid (record { 0 = tpid }))
  no_room : is_vlan_ether_type tpid ≡ true → length buffer < 4 → RefusesPush buffer hs tpid errors.NoRoom
  link : (error : TagError) → is_vlan_ether_type tpid ≡ true → 4 ≤ length buffer → RefusesTyped hs error
      → RefusesPush buffer hs tpid error

-- ---- how it is found

-- the headers begin with a link's, of 14 or 16 bytes
pub record IsLinked (hs : List Header) (len : ℕ) : Type 0 where
  pub link : Header
  pub later : List Header
  pub begins : BeginsTyped hs link later
  pub place : len ≡ header_len link
