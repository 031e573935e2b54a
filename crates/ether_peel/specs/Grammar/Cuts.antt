-- What the cuts of a list, its fronts, keep of its walk.
use Rattle.std.specs.Prelude.{◌≡◌, ℕ, ◌+◌, ◌<◌, ◌≤◌, max, List, [], ◌∷◌, ◌++◌, length, take, None, false}
use Rattle.etherparse.specs.Bytes.{IsBytes}
use Rattle.etherparse.specs.Header.{Header, header_len, unit_len}
use Rattle.ether_peel.specs.Grammar.Expectation.{Expectation, has_fcs}
use Rattle.ether_peel.specs.Grammar.Stack.{Ending, last_window, Walk}
use Rattle.ether_peel.specs.Grammar.Places.{place}
use Rattle.ether_peel.specs.Grammar.Endings.{refusal_of, OpenRefusal, named_len, EndsAlike}

-- the greatest end of a unit, if the first of them begins at a place; 0 without units
abbrev pub reach : ℕ → List Header → ℕ
reach at [] = 0
reach at (h ∷ hs) = max (at + unit_len h) (reach (at + header_len h) hs)

-- A cut of n bytes, with headers ks and ending f, ends in a unit of the whole list, whose headers are hs.
pub record EndsInUnit (n : ℕ) (hs ks : List Header) (f : Ending) : Type 0 where
  -- it has exactly the units before that one
  pub unit : Header
  pub later : List Header
  pub units : hs ≡ ks ++ unit ∷ later
  -- which is the first whose end lies past n
  pub before : reach 0 ks ≤ n
  pub past : n < place 0 ks + unit_len unit
  -- and it ends in an open refusal at its start, whose named length is above n and at most its end
  pub refusal : OpenRefusal f
  pub start : (last_window f).start ≡ place 0 ks
  pub above : n < named_len f refusal
  pub at_most : named_len f refusal ≤ place 0 ks + unit_len unit

-- What a cut of n bytes, with headers ks and ending f, keeps of the whole list, with headers hs and ending e.
pub record KeepsCut (hs : List Header) (e : Ending) (n : ℕ) (ks : List Header) (f : Ending) : Type 0 where
  -- its headers are a front of the headers of the whole
  pub front : (rest : List Header) × (hs ≡ ks ++ rest)
  -- a cut of an accepted list that has all its units is accepted, with the same headers and the same expectation
  pub whole_units : refusal_of e ≡ None → reach 0 hs ≤ n → EndsAlike hs e ks f × (refusal_of f ≡ None)
  -- any other cut of it ends in a unit
  pub in_unit : refusal_of e ≡ None → n < reach 0 hs → EndsInUnit n hs ks f

-- it is so for each cut of a list with headers hs and ending e
abbrev pub KeepsCuts : Expectation → List ℕ → List Header → Ending → Type 0
KeepsCuts start list hs e = (n : ℕ) (ks : List Header) (f : Ending) → n ≤ length list → Walk start (take n list) ks f
    → KeepsCut hs e n ks f

-- and for each list of bytes, from a start without a frame check sequence
abbrev pub CutsKeep : Type 0
CutsKeep = (start : Expectation) (list : List ℕ) (hs : List Header) (e : Ending) → IsBytes list → has_fcs start ≡ false
    → Walk start list hs e → KeepsCuts start list hs e
