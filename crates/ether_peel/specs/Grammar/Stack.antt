-- Units one in another: the headers of a window of a list, by what is expected there.
use Rattle.std.specs.Prelude.{◌≡◌, ℕ, List, [], ◌∷◌, length, Some, None}
use Rattle.etherparse.specs.Types.LenSource.TheVariants as sources
use Rattle.etherparse.specs.Kind.{Kind}
use Rattle.etherparse.specs.Header.{Header, kind_of, Means}
use Rattle.etherparse.specs.Refusal.{Refusal, Refuses, Accepts}
use Rattle.ether_peel.specs.Grammar.Window.{Window, within, payload}
use Rattle.ether_peel.specs.Grammar.Expectation.{Expectation, announced, after, has_fcs}

-- the last window, what is expected there, and the refusal if there is one
pub data Ending : Type 0 where
  Accepted : Window → Expectation → Ending
  Fault : Window → Expectation → Refusal → Ending

-- the window in which it ends
abbrev pub last_window : Ending → Window
last_window (Accepted v y) = v
last_window (Fault v y r) = v

-- what is expected there
abbrev pub last_expected : Ending → Expectation
last_expected (Accepted v y) = y
last_expected (Fault v y r) = y

-- a header at the window's start, of an announced unit that is not refused
pub record IsUnit (list : List ℕ) (x : Expectation) (w : Window) (h : Header) : Type 0 where
  pub announced : announced x ≡ Some (kind_of h)
  pub accepted : Accepts w.bound (within list w) (kind_of h)
  pub means : Means (within list w) h

-- From an expectation and a window on the list has these headers, each in the payload of the one before it,
-- and then this ending: nothing is announced; a row of the table holds; a unit, and a stack in its payload.
abbrev pub Stack : List ℕ → Expectation → Window → List Header → Ending → Type 0
Stack list x w [] (Accepted v y) = (v ≡ w) × (y ≡ x) × (announced x ≡ None)
Stack list x w [] (Fault v y r) =
    (v ≡ w) × (y ≡ x) × (kind : Kind) × (announced x ≡ Some kind) × Refuses w.bound (within list w) kind r
Stack list x w (h ∷ hs) e = IsUnit list x w h × Stack list (after x h) (payload w h) hs e

-- ---- walks

-- the whole list, which bounds itself: open, but closed if a frame check sequence is expected, which further bytes
-- would move
abbrev pub whole : Expectation → List ℕ → Window
whole start list = record { start = 0; finish = length list; closed = has_fcs start; bound = sources.Slice }

-- the stack of the whole list
abbrev pub Walk : Expectation → List ℕ → List Header → Ending → Type 0
Walk start list hs e = Stack list start (whole start list) hs e
