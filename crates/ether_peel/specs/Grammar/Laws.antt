-- The laws of the definitions.
use Rattle.std.specs.Prelude.{◌≡◌, ℕ, List}
use Rattle.etherparse.specs.Bytes.{IsBytes}
use Rattle.etherparse.specs.Header.{Header}
use Rattle.ether_peel.specs.Grammar.Window.{Window}
use Rattle.ether_peel.specs.Grammar.Expectation.{Expectation}
use Rattle.ether_peel.specs.Grammar.Stack.{Ending, Stack}

-- each window of each list of bytes has exactly one stack from each expectation
pub record StacksAreOne : Type 0 where
  pub some : (list : List ℕ) (x : Expectation) (w : Window) → IsBytes list → (hs : List Header) × (e : Ending)
      × Stack list x w hs e
  pub one : (list : List ℕ) (x : Expectation) (w : Window) (hs ks : List Header) (e f : Ending) → Stack list x w hs e
      → Stack list x w ks f → (hs ≡ ks) × (e ≡ f)
