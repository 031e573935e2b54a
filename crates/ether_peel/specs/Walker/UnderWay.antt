-- A walk that is under way.
use Rattle.std.specs.Prelude.{◌≡◌, ℕ, List, ◌++◌, false}
use Rattle.etherparse.specs.Header.{Header}
use Rattle.ether_peel.specs.Grammar.Window.{Window}
use Rattle.ether_peel.specs.Grammar.Expectation.{Expectation}
use Rattle.ether_peel.specs.Grammar.Stack.{Ending, Walk}
use Rattle.ether_peel.specs.Walker.State.{State}
use Rattle.ether_peel.specs.Walker.Next.{Faces}

-- the walk of a list that has returned some headers, and has others left
pub record UnderWay (x : Expectation) (list : List ℕ) (s : State) : Type 0 where
  pub done : List Header
  pub left : List Header
  pub ending : Ending
  pub window : Window
  pub walk : Walk x list (done ++ left) ending
  pub faces : Faces list window s left ending
  pub going : s.over ≡ false
