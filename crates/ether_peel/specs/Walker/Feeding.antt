-- Feeding: a reader takes longer and longer fronts of a list, and asks for no byte that the walk of a front does not
-- name.
use Rattle.std.specs.Prelude.{◌≡◌, ℕ, ◌+◌, ◌≤◌, List, length, take, None, true, false}
use Rattle.etherparse.specs.Header.{Header}
use Rattle.ether_peel.specs.Grammar.Expectation.{Expectation, has_fcs}
use Rattle.ether_peel.specs.Grammar.Stack.{Ending, Walk}
use Rattle.ether_peel.specs.Grammar.Endings.{refusal_of}
use Rattle.ether_peel.specs.Walker.Summary.{fault_of}
use Rattle.ether_peel.specs.declared.walk_feed.Feed.{Feed}
use Rattle.ether_peel.specs.Grammar.Demands.{AreDemands, TakesUnits, caps, greatest, last_cap}

-- The feed counts the demands, and takes the front whose length is the greatest of them. The walk of this front has the
-- fault, and its caps are at least as many. Without a frame check sequence all units of an accepted list are taken;
-- with one, nothing is asked for.
pub record IsFeed (start : Expectation) (list : List ℕ) (f : Feed) : Type 0 where
  pub demands : List ℕ
  pub are : AreDemands start list 0 demands
  pub refusals : f.refusals ≡ length demands
  pub taken : f.taken ≡ greatest demands
  pub headers : List Header
  pub ending : Ending
  pub walk : Walk start (take f.taken list) headers ending
  pub fault : f.fault ≡ fault_of ending
  pub few : f.refusals ≤ caps (has_fcs start) headers + last_cap ending
  pub accepted : has_fcs start ≡ false → (hs : List Header) (e : Ending) → Walk start list hs e → refusal_of e ≡ None
      → TakesUnits start list hs f.taken headers ending
  pub nothing : has_fcs start ≡ true → (f.refusals ≡ 0) × (f.taken ≡ 0)
