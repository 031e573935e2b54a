-- The part of a captured packet that is walked, as a struct of C.
use Rattle.std.specs.Prelude.{◌≡◌, ℕ, List, Some}
use Rattle.ether_peel.specs.Grammar.Expectation.{Next}
use Rattle.ether_peel.specs.Walker.Start.{next_of}
use Rattle.ether_peel.specs.declared.start.Start.{Start}
use Rattle.ether_peel.specs.declared.start.Start.TheVariants as starts
use Rattle.ether_content.specs.Content.{ContentValue, LinuxSll, LinuxSll2, IsWalked}
use Rattle.ether_c.specs.declared.ether_frame.EtherFrame.{EtherFrame}
use Rattle.ether_c.specs.Numbers.{start_numbered, done, unknown_start}

-- the ether type that announces a frame, 0 if it begins with a link's header
abbrev pub first_ether_type : Start → ℕ
first_ether_type (starts.EtherType t) = t.0
first_ether_type _ = 0

-- The offset of a frame in its packet: in cooked capture v1 that is not read as a frame the payload follows a header
-- of sixteen bytes, and in v2 one of twenty.
abbrev pub frame_offset : ContentValue → ℕ
frame_offset (LinuxSll s payload) = 16
frame_offset (LinuxSll2 bytes) = 20
frame_offset _ = 0

-- the frame that is walked, with the numbers of its start
pub record HoldsFrame (content : ContentValue) (f : EtherFrame) : Type 0 where
  pub begins : Start
  pub walked : IsWalked content (next_of begins) f.bytes.now
  pub start : start_numbered f.start f.ether_type ≡ Some begins
  pub ether_type : f.ether_type ≡ first_ether_type begins
  pub offset : f.offset ≡ frame_offset content

-- there is such a frame; or nothing is walked, and nothing is written
pub data GivesFrame (content : ContentValue) (old new : EtherFrame) (status : ℕ) : Type 0 where
  given : HoldsFrame content new → status ≡ done → GivesFrame content old new status
  none : ((next : Next) (bytes : List ℕ) → IsWalked content next bytes → ⊥) → new ≡ old → status ≡ unknown_start
      → GivesFrame content old new status
