-- The units of a walk in an array of a caller in C.
use Rattle.std.specs.Prelude.{◌≡◌, ℕ, List, ◌++◌, length, take, drop}
use Rattle.etherparse.specs.Header.{Header}
use Rattle.ether_peel.specs.Grammar.Expectation.{Expectation}
use Rattle.ether_peel.specs.Grammar.Stack.{Ending, whole, Walk}
use Rattle.ether_c.specs.declared.ether_unit.EtherUnit.{EtherUnit}
use Rattle.ether_c.specs.Numbers.{done}
use Rattle.ether_c.specs.Units.{c_units}

-- The list has exactly one walk, whose units are counted. The array holds them from its front on, as many as it has
-- room for, and then what it held before.
pub record GivesUnits (start : Expectation) (list : List ℕ)
    (old new : List EtherUnit) (count : ℕ) : Type 0 where
  pub headers : List Header
  pub ending : Ending
  pub walk : Walk start list headers ending
  pub one : (hs : List Header) (e : Ending) → Walk start list hs e → (hs ≡ headers) × (e ≡ ending)
  pub counted : count ≡ length headers
  pub units : new ≡ take (length old) (c_units (whole start list) headers) ++ drop count old

pub record GivesWalk (start : Expectation) (list : List ℕ)
    (old new : List EtherUnit) (status count : ℕ) : Type 0 where
  pub units : GivesUnits start list old new count
  pub status_is : status ≡ done
