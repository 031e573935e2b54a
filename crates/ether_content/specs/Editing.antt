-- What an edit makes of a captured packet.
use Rattle.std.specs.Prelude.{◌≡◌, ◌≢◌, ℕ, ◌+◌, ◌-◌, ◌<◌, ◌≤◌, List, ◌∷◌, ◌++◌, length, take, drop, Option, Some, None, ⊤, ◌⊎◌}
use Rattle.ether_base.specs.Bytes.{IsBytes}
use Rattle.etherparse.specs.Header.{Header}
use Rattle.etherparse.specs.Vlan.{VlanValue}
use Rattle.ether_peel.specs.Grammar.Expectation.{Next, Expectation}
use Rattle.ether_peel.specs.Grammar.Stack.{Ending, Walk}
use Rattle.ether_packet.specs.Popping.{IsPopped, RefusesPop}
use Rattle.ether_packet.specs.Pushing.{IsPushed, RefusesPush}
use Rattle.ether_packet.specs.Setting.{LacksVlan, FindsVlan, SetsTag}
use Rattle.ether_packet.specs.declared.tag_error.TagError.{TagError}
use Rattle.ether_pcap.specs.Capture.{PacketValue}
use Rattle.ether_pcap.specs.Editing.{EditedValue, edited_packet}
use Rattle.ether_content.specs.Content.{Frame, content_of, fcs_len}
use Rattle.ether_content.specs.Headers.{HeadersTake}

-- The packet is cut to its headers; or the VLAN tag after its link's header is taken off; or a VLAN tag with this TPID
-- and identifier is put in there; or the outermost VLAN tag with the old identifier gets the new one.
pub data EditValue : Type 0 where
  CutToHeaders : EditValue
  PopVlan : EditValue
  PushVlan : (tpid id : ℕ) → EditValue
  SetVlan : (old new : ℕ) → EditValue

abbrev pub frame_start : Next → Expectation
frame_start next = record { next = next; limit = None }

-- The packet is a frame of Ethernet or of cooked capture v1, with this walk.
pub record IsFrame (p : PacketValue) (next : Next) (frame : List ℕ) (hs : List Header) (e : Ending) : Type 0 where
  pub content : content_of p ≡ Frame next frame
  pub walk : Walk (frame_start next) frame hs e

-- another frame in place of the packet's; captured bytes after it, of a frame check sequence, are unchanged
abbrev pub with_frame : PacketValue → (frame new : List ℕ) → (original_len : ℕ) → EditedValue
with_frame p frame new original_len =
    record { original_len = original_len; packet = new ++ drop (length frame) p.packet }

-- The VLAN tag after the link's header is taken off, and the packet is four bytes shorter. It is still a frame, with
-- the walk that `IsPopped` says.
pub record Pops (p : PacketValue) (edited : EditedValue) : Type 0 where
  pub next : Next
  pub frame : List ℕ
  pub headers : List Header
  pub ending : Ending
  pub tag : VlanValue
  pub new : List ℕ
  pub is_frame : IsFrame p next frame headers ending
  pub popped : IsPopped (frame_start next) frame headers ending tag new
  pub is : edited ≡ with_frame p frame (drop 4 new) (p.original_len - 4)
  pub content : content_of (edited_packet edited p) ≡ Frame next (drop 4 new)

-- the tag that is put in, of priority 0; it gets the ether type of the link's header
abbrev pub tag_with : (id : ℕ) → VlanValue
tag_with id = record { pcp = 0; dei = 0; vid = id; ether_type = 0 }

-- a frame after four free bytes
abbrev pub after_free : List ℕ → List ℕ
after_free frame = 0 ∷ 0 ∷ 0 ∷ 0 ∷ frame

-- A VLAN tag is put in after the link's header, and the packet is four bytes longer. It is still a frame, with the
-- walk that `IsPushed` says.
pub record Pushes (tpid id : ℕ) (p : PacketValue) (edited : EditedValue) : Type 0 where
  pub next : Next
  pub frame : List ℕ
  pub headers : List Header
  pub ending : Ending
  pub new : List ℕ
  pub is_frame : IsFrame p next frame headers ending
  pub pushed : IsPushed (frame_start next) (after_free frame) headers ending (tag_with id) tpid new
  pub is : edited ≡ with_frame p frame new (p.original_len + 4)
  pub content : content_of (edited_packet edited p) ≡ Frame next new

-- The outermost VLAN tag with one identifier gets another one, and the packet is as long as before. It is still a
-- frame, with the walk that `SetsTag` says.
pub record Sets (old new : ℕ) (p : PacketValue) (edited : EditedValue) : Type 0 where
  pub next : Next
  pub frame : List ℕ
  pub headers : List Header
  pub ending : Ending
  pub index : ℕ
  pub changed : List ℕ
  pub is_frame : IsFrame p next frame headers ending
  pub finds : FindsVlan headers old index
  pub set : SetsTag (frame_start next) frame headers ending index (λ tag. record tag { vid = new }) changed
  pub is : edited ≡ with_frame p frame changed p.original_len
  pub content : content_of (edited_packet edited p) ≡ Frame next changed

-- A packet is unchanged: it is not a frame, or its frame is refused.
pub data Stays (Refuses : (frame : List ℕ) → List Header → Type 0) (p : PacketValue) : Type 0 where
  no_frame : ((next : Next) (frame : List ℕ) → content_of p ≢ Frame next frame) → Stays Refuses p
  refused : (next : Next) (frame : List ℕ) (hs : List Header) (e : Ending) → IsFrame p next frame hs e
      → Refuses frame hs
      → Stays Refuses p

-- what an edit makes of a packet; None if the packet is unchanged
pub data Edits : EditValue → PacketValue → Option EditedValue → Type 0 where
  cuts : (p : PacketValue) (n : ℕ) → HeadersTake (content_of p) n → n < length p.packet
      → Edits CutToHeaders p (Some (record { original_len = p.original_len; packet = take n p.packet }))
  not_cut : (p : PacketValue) (n : ℕ) → HeadersTake (content_of p) n → length p.packet ≤ n → Edits CutToHeaders p None
  pops : (p : PacketValue) (e : EditedValue) → Pops p e → Edits PopVlan p (Some e)
  not_popped : (p : PacketValue) → Stays (λ frame hs. (error : TagError) × RefusesPop hs error) p → Edits PopVlan p None
  pushes : (p : PacketValue) (tpid id : ℕ) (e : EditedValue) → Pushes tpid id p e → Edits (PushVlan tpid id) p (Some e)
  not_pushed : (p : PacketValue) (tpid id : ℕ)
      → Stays (λ frame hs. (error : TagError) × RefusesPush (after_free frame) hs tpid error) p
      → Edits (PushVlan tpid id) p None
  sets : (p : PacketValue) (old new : ℕ) (e : EditedValue) → Sets old new p e → Edits (SetVlan old new) p (Some e)
  not_set : (p : PacketValue) (old new : ℕ) → Stays (λ frame hs. LacksVlan hs old) p → Edits (SetVlan old new) p None

-- the most bytes that an edit adds to a packet
abbrev pub growth : EditValue → ℕ
growth (PushVlan tpid id) = 4
growth edit = 0

-- the identifiers that tags get have 12 bits
abbrev pub FitsEdit : EditValue → Type 0
FitsEdit (PushVlan tpid id) = id < 4096
FitsEdit (SetVlan old new) = new < 4096
FitsEdit edit = ⊤

-- Each packet is edited to some value, or is unchanged.
abbrev pub EditsAreSome : Type 0
EditsAreSome =
    (edit : EditValue) (p : PacketValue) → FitsEdit edit → IsBytes p.packet → (o : Option EditedValue) × Edits edit p o

-- An edit makes a packet longer by at most its growth.
abbrev pub EditsGrow : Type 0
EditsGrow = (edit : EditValue) (p : PacketValue) (e : EditedValue) → Edits edit p (Some e) → length e.packet
    ≤ length p.packet + growth edit

-- An edit makes at most one thing of a packet.
abbrev pub EditsAreOne : Type 0
EditsAreOne = (edit : EditValue) (p : PacketValue) (o q : Option EditedValue) → Edits edit p o → Edits edit p q → o ≡ q

-- a packet with the bytes and the original length that it has
abbrev pub unedited : PacketValue → EditedValue
unedited p = record { original_len = p.original_len; packet = p.packet }

-- this edit of the edited packet restores the packet
abbrev pub Undoes : EditValue → PacketValue → EditedValue → Type 0
Undoes edit p e =
    Edits edit (edited_packet e p) (Some (unedited p)) × (edited_packet (unedited p) (edited_packet e p) ≡ p)

-- Taking off the VLAN tag that was just put into a packet restores the packet.
abbrev pub PoppedAfterPushed : Type 0
PoppedAfterPushed =
    (tpid id : ℕ) (p : PacketValue) (e : EditedValue) → IsBytes p.packet → Edits (PushVlan tpid id) p (Some e)
    → Undoes PopVlan p e

-- no more bytes were captured than the original length, or the file gives no frame check sequence
abbrev pub IsWithinOriginal : PacketValue → Type 0
IsWithinOriginal p = (length p.packet ≤ p.original_len) ⊎ (fcs_len p ≡ 0)

-- Cutting a packet to its headers a second time changes nothing.
abbrev pub CutOnce : Type 0
CutOnce =
    (p : PacketValue) (e : EditedValue) → IsBytes p.packet → IsWithinOriginal p → Edits CutToHeaders p (Some e)
    → Edits CutToHeaders (edited_packet e p) None

-- No VLAN tag before the outermost one with the first identifier has the second identifier.
abbrev pub LacksBefore : (id other : ℕ) → PacketValue → Type 0
LacksBefore id other p =
    (next : Next) (frame : List ℕ) (hs : List Header) (e : Ending) (i : ℕ) → IsFrame p next frame hs e
    → (found : FindsVlan hs id i) → LacksVlan found.front other

-- Changing the identifier of a VLAN tag back restores the packet, if no tag before it has the new identifier.
abbrev pub SetBack : Type 0
SetBack =
    (old new : ℕ) (p : PacketValue) (e : EditedValue) → IsBytes p.packet → LacksBefore old new p
    → Edits (SetVlan old new) p (Some e)
    → Undoes (SetVlan new old) p e
