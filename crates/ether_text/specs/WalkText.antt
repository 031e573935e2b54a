-- The text for a frame.
use Rattle.std.specs.Prelude.{◌≡◌, ℕ, List, ◌++◌, length, take, codes, Bool}
use Rattle.etherparse.specs.Header.{Header}
use Rattle.ether_peel.specs.Grammar.Expectation.{Expectation}
use Rattle.ether_peel.specs.Grammar.Stack.{Ending, whole, Walk}
use Rattle.ether_peel.specs.Grammar.Demands.{AreDemands, greatest}
use Rattle.ether_text.specs.Lines.{frame_text, feed_text, fault_line}
use Rattle.ether_output.specs.Words.{is_accepted}

-- The text is the lines of the frame's walk, with offsets counted from `at` bytes before the frame, and the frame is
-- accepted exactly if the walk ends without a fault.
pub record AnswersWalkAfter (at : ℕ) (start : Expectation) (frame text : List ℕ) (accepted : Bool) : Type 0 where
  pub headers : List Header
  pub ending : Ending
  pub walk : Walk start frame headers ending
  pub lines : text ≡ frame_text at frame (whole start frame) headers ending
  pub verdict : accepted ≡ is_accepted ending

-- .. with offsets counted from the start of the frame
abbrev pub AnswersWalk : (start : Expectation) → (frame text : List ℕ) → (accepted : Bool) → Type 0
AnswersWalk start frame text accepted = AnswersWalkAfter 0 start frame text accepted

-- The demands are all the lengths that walks of the frame's fronts ask for, in order, and the front with the greatest
-- of them is taken. The text is a line with the number of demands and this length, and a line for the fault of the walk
-- of that front, if it has one. The frame is accepted exactly if it has none.
pub record AnswersFeed (start : Expectation) (frame text : List ℕ) (accepted : Bool) : Type 0 where
  pub demands : List ℕ
  pub are : AreDemands start frame 0 demands
  pub headers : List Header
  pub ending : Ending
  pub walk : Walk start (take (greatest demands) frame) headers ending
  pub lines : text ≡ (feed_text (length demands) (greatest demands) ++ codes "\n") ++ fault_line ending
  pub verdict : accepted ≡ is_accepted ending
