-- Demands: the lengths that the walks of longer and longer fronts of a list ask for, and how many there can be.
use Rattle.std.specs.Prelude.{◌≡◌, ℕ, ◌+◌, ◌-◌, ◌<◌, ◌≤◌, max, List, [], ◌∷◌, length, take, Option, Some, None, is_some, Bool, true, false, ◌||◌}
use Rattle.etherparse.specs.Kind.{Kind}
use Rattle.etherparse.specs.Kind as kinds
use Rattle.etherparse.specs.Header.{Header, kind_of, payload_len}
use Rattle.ether_peel.specs.Grammar.Expectation.{Expectation, announced}
use Rattle.ether_peel.specs.Grammar.Stack.{Ending, last_window, last_expected, Walk}
use Rattle.ether_peel.specs.Grammar.Endings.{refusal_of, OpenRefusal, named_len}
use Rattle.ether_peel.specs.Grammar.Cuts.{reach}

-- a length that the list is asked for: the walk of the front that is one byte shorter ends in an open refusal that
-- names it
pub record IsDemand (start : Expectation) (list : List ℕ) (m : ℕ) : Type 0 where
  pub positive : 0 < m
  pub inside : m ≤ length list
  pub headers : List Header
  pub ending : Ending
  pub walk : Walk start (take (m - 1) list) headers ending
  pub refusal : OpenRefusal ending
  pub names : named_len ending refusal ≡ m

-- the demands above a length, all of them, in order
abbrev pub AreDemands : Expectation → List ℕ → ℕ → List ℕ → Type 0
AreDemands start list above [] = (k : ℕ) → above < k → IsDemand start list k → ⊥
AreDemands start list above (m ∷ ms) =
    (above < m) × IsDemand start list m × ((k : ℕ) → above < k → k < m → IsDemand start list k → ⊥)
    × AreDemands start list m ms

-- the greatest of them, 0 if there is none
abbrev pub greatest : List ℕ → ℕ
greatest [] = 0
greatest (m ∷ ms) = max m (greatest ms)

-- ---- how many there can be

-- how often a unit can ask for more: never in a closed window; for its header, for what its first bytes make of that
-- (an ARP packet's addresses, the rest of a SecTag), and for the payload whose length a SecTag names
abbrev pub cap : Bool → Kind → ℕ
cap true kind = 0
cap false kinds.Ethernet2 = 1
cap false kinds.Ethernet2Fcs = 1
cap false kinds.LinuxSll = 1
cap false kinds.Vlan = 1
cap false kinds.Arp = 2
cap false kinds.Macsec = 3

-- for these units, the first of them read in a window of this mark
abbrev pub caps : Bool → List Header → ℕ
caps closed [] = 0
caps closed (h ∷ hs) = cap closed (kind_of h) + caps (is_some (payload_len h) || closed) hs

-- for the unit that is announced at an ending, which is the refused one; an accepted ending has none
abbrev pub announced_cap : Bool → Option Kind → ℕ
announced_cap closed None = 0
announced_cap closed (Some kind) = cap closed kind

abbrev pub last_cap : Ending → ℕ
last_cap e = announced_cap (last_window e).closed (announced (last_expected e))

-- A walk with headers ks and ending f takes exactly the units of an accepted list with headers hs: no shorter front has
-- all headers.
pub record TakesUnits (start : Expectation) (list : List ℕ) (hs : List Header) (taken : ℕ) (ks : List Header)
    (f : Ending) : Type 0 where
  pub reaches : taken ≡ reach 0 hs
  pub all : ks ≡ hs
  pub accepted : refusal_of f ≡ None
  pub least : (n : ℕ) (gs : List Header) (g : Ending) → n < taken → Walk start (take n list) gs g → length gs
      < length hs
