-- Where units lie in the list, and stacks that are moved to another place.
use Rattle.std.specs.Prelude.{◌≡◌, ℕ, ◌+◌, ◌-◌, List, [], ◌∷◌}
use Rattle.etherparse.specs.Header.{Header, header_len}
use Rattle.ether_peel.specs.Grammar.Window.{Window, within, IsIn}
use Rattle.ether_peel.specs.Grammar.Expectation.{Expectation}
use Rattle.ether_peel.specs.Grammar.Stack.{Ending, Accepted, Fault, Stack}

-- where the last of these headers ends, if the first of them begins at a place
abbrev pub place : ℕ → List Header → ℕ
place at [] = at
place at (h ∷ hs) = place (at + header_len h) hs

-- ---- moving

-- the window that lies as far after one place as this window lies after another
abbrev pub moved : (old new : ℕ) → Window → Window
moved old new w =
    record { start = new + (w.start - old); finish = new + (w.finish - old); closed = w.closed; bound = w.bound }

abbrev pub moved_ending : (old new : ℕ) → Ending → Ending
moved_ending old new (Accepted v y) = Accepted (moved old new v) y
moved_ending old new (Fault v y r) = Fault (moved old new v) y r

-- A stack depends on no bytes but its window's, and moves with it: if two windows, of two lists or of one, have the
-- same bytes and have the same mark and bound, a stack of the one is a stack of the other.
abbrev pub StacksAreLocal : Type 0
StacksAreLocal =
    (list other : List ℕ) (x : Expectation) (w v : Window) (hs : List Header) (e : Ending)
    → IsIn list w → IsIn other v → within list w ≡ within other v → w.closed ≡ v.closed → w.bound ≡ v.bound
    → Stack list x w hs e
    → Stack other x v hs (moved_ending w.start v.start e)
