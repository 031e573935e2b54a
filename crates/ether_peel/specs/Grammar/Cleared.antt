-- The list with two bits cleared in each SecTag, which the headers of its walk give if they are written back.
use Rattle.std.specs.Prelude.{◌≡◌, ℕ, ◌+◌, ◌%◌, List, [], ◌∷◌, ◌++◌, take, slice_index, slice_set, flat_map}
use Rattle.etherparse.specs.Bytes.{IsBytes}
use Rattle.etherparse.specs.Header.{Header, header_len, header_bytes}
use Rattle.etherparse.specs.Header as headers
use Rattle.ether_peel.specs.Grammar.Window.{within}
use Rattle.ether_peel.specs.Grammar.Expectation.{Expectation}
use Rattle.ether_peel.specs.Grammar.Stack.{Ending, last_window, Walk}

-- Where a SecTag begins at a place, its second byte is replaced by its remainder by 64, which leaves out the two
-- reserved bits (IEEE 802.1AE, 9.7).
abbrev pub cleared_at : List ℕ → ℕ → Header → List ℕ
cleared_at list at (headers.Macsec t) = slice_set list (at + 1) (slice_index list (at + 1) % 64)
cleared_at list at _ = list

-- the list in which that is done for each of these headers, which follow one another from a place on
abbrev pub cleared : List ℕ → ℕ → List Header → List ℕ
cleared list at [] = list
cleared list at (h ∷ hs) = cleared_at (cleared list (at + header_len h) hs) at h

-- The bytes of the headers of a walk, and after them those of its last window, are the front of the cleared list up to
-- the end of that window.
abbrev pub HeadersGoBack : Type 0
HeadersGoBack =
    (start : Expectation) (list : List ℕ) (hs : List Header) (e : Ending)
    → IsBytes list → Walk start list hs e
    → flat_map header_bytes hs ++ within list (last_window e) ≡ take (last_window e).finish (cleared list 0 hs)
