-- Endings of walks: accepted, refused for good, or refused until more bytes are there.
use Rattle.std.specs.Prelude.{◌≡◌, ℕ, ◌+◌, List, Option, Some, None, false}
use Rattle.etherparse.specs.Types.LenSource.{LenSource}
use Rattle.etherparse.specs.Types.Layer.{Layer}
use Rattle.etherparse.specs.Header.{Header}
use Rattle.etherparse.specs.Refusal.{Refusal, Length}
use Rattle.ether_peel.specs.Grammar.Stack.{Ending, Accepted, Fault, last_window, last_expected}

-- the refusal with which it ends, if it does not end accepted
abbrev pub refusal_of : Ending → Option Refusal
refusal_of (Accepted v y) = None
refusal_of (Fault v y r) = Some r

-- refused for the content of the bytes, not for their number
abbrev pub IsContent : Refusal → Type 0
IsContent (Length required len source layer) = ⊥
IsContent _ = Unit {0}

-- an open refusal: of a length, in an open window
pub record OpenRefusal (e : Ending) : Type 0 where
  pub required : ℕ
  pub len : ℕ
  pub source : LenSource
  pub layer : Layer
  pub refused : refusal_of e ≡ Some (Length required len source layer)
  pub is_open : (last_window e).closed ≡ false

-- the length of the list that it names: the bytes before its window, and those that are required in it
abbrev pub named_len : (e : Ending) → OpenRefusal e → ℕ
named_len e o = (last_window e).start + o.required

-- Two walks, of headers hs and ks, have the same headers and end at the same place: their last windows begin there and
-- have the same mark, and the same is expected. One of the windows may reach further.
pub record EndsAlike (hs : List Header) (e : Ending) (ks : List Header) (f : Ending) : Type 0 where
  pub headers : ks ≡ hs
  pub start : (last_window f).start ≡ (last_window e).start
  pub closed : (last_window f).closed ≡ (last_window e).closed
  pub expected : last_expected f ≡ last_expected e
