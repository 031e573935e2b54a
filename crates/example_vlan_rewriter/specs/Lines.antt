-- The lines that a rewriter of VLAN identifiers writes.
use Rattle.std.specs.Prelude.{◌≡◌, ℕ, List, ◌++◌, codes}
use Rattle.hex.specs.Hex.{encode_lower}
use Rattle.etherparse.specs.Header.{Header}
use Rattle.ether_peel.specs.Grammar.Stack.{Ending, Walk}
use Rattle.ether_peel.specs.Walker.Start.{start_of}
use Rattle.ether_peel.specs.declared.start.Start.{Start}
use Rattle.ether_packet.specs.Setting.{FindsVlan, LacksVlan, SetsTag}

-- The outermost VLAN tag with the first identifier gets the second one; without such a tag the frame is unchanged.
pub data Rewrites (start : Start) (frame : List ℕ) (hs : List Header) (e : Ending) (from to : ℕ) : (new : List ℕ)
    → Type 0 where
  sets : (i : ℕ) (new : List ℕ) → FindsVlan hs from i
      → SetsTag (start_of start) frame hs e i (λ tag. record tag { vid = to }) new
      → Rewrites start frame hs e from to new
  stays : LacksVlan hs from → Rewrites start frame hs e from to frame

-- a frame in hexadecimal digits
abbrev pub line_of : (frame : List ℕ) → List ℕ
line_of frame = encode_lower frame ++ codes "\n"

-- the line for a frame, rewritten by the walk from this start
pub record HasLine (start : Start) (frame : List ℕ) (from to : ℕ) (text : List ℕ) : Type 0 where
  pub new : List ℕ
  pub rewritten : (hs : List Header) (e : Ending) → Walk (start_of start) frame hs e
      → Rewrites start frame hs e from to new
  pub written : text ≡ line_of new
