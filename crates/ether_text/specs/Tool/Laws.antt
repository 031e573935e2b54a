-- The laws of the definitions.
use Rattle.std.specs.Prelude.{◌≡◌, ◌⊎◌, ℕ, List}
use Rattle.ether_text.specs.Tool.Frame.{IsFrame, IsBadLine}

-- a line names exactly one frame or is bad, and never both
pub record IsDecided (line : List ℕ) : Type 0 where
  pub one_of_them : ((frame : List ℕ) × IsFrame line frame) ⊎ IsBadLine line
  pub never_both : (frame : List ℕ) → IsFrame line frame → ¬ (IsBadLine line)
  pub one_frame : (frame other : List ℕ) → IsFrame line frame → IsFrame line other → frame ≡ other

abbrev pub LinesAreDecided : Type 0
LinesAreDecided = (line : List ℕ) → IsDecided line
