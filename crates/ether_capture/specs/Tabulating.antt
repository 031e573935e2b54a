-- The lines of a text are counted.
use Rattle.std.specs.Prelude.{◌≡◌, ℕ, List, [], ◌∷◌, Bool, true, false}
use Rattle.ether_capture.specs.CountTable.{count_at}
use Rattle.ether_capture.specs.KeyCounts.{count_of}
use Rattle.ether_capture.specs.RowFields.{lines_of, last_piece, lines_hits, total_of}
use Rattle.ether_capture.specs.Waiting.{join, spreads, waiting}
use Rattle.ether_capture.specs.declared.rows.Rows.{Rows}

abbrev pub HasHeading : List (List ℕ) → Rows → Type 0
HasHeading [] at = (at.has_heading ≡ false) × (at.heading.bytes.items ≡ [])
HasHeading (heading ∷ rows) at = (at.has_heading ≡ true) × (at.heading.bytes.items ≡ heading)

-- what was counted and what waits are together the packets of these lines
abbrev pub HasCounts : (joint : Bool) → (lines : List (List ℕ)) → Rows → Type 0
HasCounts joint lines at =
    ((q : List ℕ) → join (count_at at.counts q)
    (count_of (spreads joint at.heading.bytes.items (waiting at.slots.items)) q) ≡ count_of (lines_hits joint lines) q)
    × (at.total ≡ total_of lines)

abbrev pub TabulatesLines : (joint : Bool) → (lines : List (List ℕ)) → Rows → Type 0
TabulatesLines joint lines at = HasHeading lines at × HasCounts joint lines at

-- .. and this follows the last of them
abbrev pub Tabulates : (joint : Bool) → (text : List ℕ) → Rows → Type 0
Tabulates joint text at = TabulatesLines joint (lines_of text) at × (at.line.bytes.items ≡ last_piece 10 [] text)
