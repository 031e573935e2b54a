-- Lines that are taken one after the other.
use Rattle.std.proofs.Common.{◌≡◌, ℕ, ◌+◌, List, [], ◌∷◌, ◌++◌, length, Bool, true, false, Option, Some, None, refl, sym, ap, subst, ◌∙◌, append_assoc, append-nil, length-append, arith}
use Rattle.std.specs.Prelude.{◌==◌, if◌then◌else◌, unwrap_or}
use Rattle.std.specs.List.{All, flat_map, sum_by}
use Rattle.std.specs.Str.{bytes_eq}
use Rattle.std.proofs.lemmas.List.Sums.{sum_by_push}
use Rattle.std.proofs.lemmas.Grind.{flat_map-append}
use Rattle.ether_capture.specs.declared.count.Count.{Count}
use Rattle.ether_capture.specs.declared.heap_text.HeapText.{HeapText}
use Rattle.ether_capture.specs.declared.row_slot.RowSlot.{RowSlot}
use Rattle.ether_capture.specs.declared.rows.Rows.{Rows}
use Rattle.ether_capture.specs.KeyCounts.{count_of, one_packet, plus}
use Rattle.ether_capture.specs.CountTable.{count_at}
use Rattle.ether_capture.specs.RowFields.{after_first, decimal_value, fields_bytes, fields_if, hits_under, last_piece, lines_counts, lines_hits, lines_of, row_bytes, row_fields, row_hits, row_keys, total_of}
use Rattle.ether_stream.specs.Packets.{counted}
use Rattle.ether_format.specs.Splits.{SplitsAt}
use Rattle.ether_capture.specs.Tabulating.{HasHeading, Tabulates, TabulatesLines}
use Rattle.ether_capture.specs.Waiting.{Adds, GrowsBy, hits_of, join, spread, spreads, waiting}
use Rattle.ether_capture.proofs.FieldLemmas.{last_after, last_none, no_keys, pieces_after, pieces_none}
use Rattle.ether_capture.proofs.MergeLawLemmas.{count_append}

-- a packet more of all
total_more : (heading : List ℕ) (rows : List (List ℕ)) (line : List ℕ)
    → plus (Some (total_of (heading ∷ rows))) (one_packet (row_bytes line)) ≡ total_of (heading ∷ rows ++ line ∷ [])
total_more heading rows line =
    let long = length-append rows (line ∷ []) in
    let sum = sum_by_push row_bytes rows line in
    let packets : counted (counted (length rows) + 1) ≡ counted (length (rows ++ line ∷ [])) = omega (arith, long) in
    let bytes : counted (counted (sum_by row_bytes rows) + row_bytes line)
    ≡ counted (sum_by row_bytes (rows ++ line ∷ [])) = omega (arith, sum) in
    λ i. record { packets = packets i; bytes = bytes i }

-- the first line
join_empty : (a b : Option Count) → join a b ≡ None → a ≡ None
join_empty None b e = refl
join_empty (Some a) None e = absurd cc
join_empty (Some a) (Some b) e = absurd cc

pub first_line : (joint : Bool) (lines : List (List ℕ)) (line : List ℕ) (old new : Rows) → old.has_heading ≡ false
    → TabulatesLines joint lines old → new.has_heading ≡ true
    → new.heading.bytes.items ≡ old.heading.bytes.items ++ line → new.counts ≡ old.counts → new.total ≡ old.total
    → waiting new.slots.items ≡ [] → TabulatesLines joint (lines ++ line ∷ []) new
first_line joint [] line old new none so_far is heading counts total empty = (
  (is, heading ∙ ap (λ (l : List ℕ). l ++ line) so_far.0.1),
  (
    λ q. ap (λ w. join (count_at new.counts q) (count_of (spreads joint new.heading.bytes.items w) q)) empty
        ∙ ap (λ t. join (count_at t q) None) counts
        ∙ ap (λ o. join o None)
        (join_empty (count_at old.counts q)
        (count_of (spreads joint old.heading.bytes.items (waiting old.slots.items)) q)
        (so_far.1.0 q)),
    total ∙ so_far.1.1,
  ),
)
first_line joint (h ∷ hs) line old new none so_far is heading counts total empty =
    let e : true ≡ false = sym so_far.0.0 ∙ none in absurd cc

-- a row, by its texts
no_texts : (joint : Bool) (columns : List (List ℕ)) → row_keys joint columns [] ≡ row_keys joint columns ([] ∷ [])
no_texts true columns = refl
no_texts false [] = refl
no_texts false (c ∷ cs) = sym (no_keys cs)

row_spread : (joint : Bool) (heading line len texts : List ℕ) (fields : Option (List ℕ)) (bytes : ℕ)
    → row_fields line ≡ len ∷ fields_if fields → texts ≡ unwrap_or fields [] → bytes ≡ counted (decimal_value 0 len)
    → row_hits joint heading line ≡ spread joint heading (record { key = texts; count = one_packet bytes })
row_spread joint heading line len texts fields bytes parts named is =
    let columns = after_first (row_fields heading) in
    (λ i. hits_under (fields_bytes (parts i)) (row_keys joint columns (after_first (parts i))))
    ∙ (λ i. hits_under (sym is i) (keys fields i))
    ∙ ap (λ t. hits_of (one_packet bytes) (row_keys joint columns (row_fields t))) (sym named)
  where
    keys : (f : Option (List ℕ)) → row_keys joint (after_first (row_fields heading)) (fields_if f)
        ≡ row_keys joint (after_first (row_fields heading)) (row_fields (unwrap_or f []))
    keys None = no_texts joint (after_first (row_fields heading))
    keys (Some t) = refl

pub grows_as : (joint : Bool) (heading named texts : List ℕ) (more one : Count) (old new : List ℕ → Option Count)
    (waited had waits has : List RowSlot) → heading ≡ named → more ≡ one → waited ≡ had → waits ≡ has
    → GrowsBy joint heading (record { key = texts; count = more }) old new (waiting waited) (waiting waits)
    → GrowsBy joint named (record { key = texts; count = one }) old new (waiting had) (waiting has)
grows_as joint heading named texts more one old new waited had waits has e f g h grows =
    subst (λ n. GrowsBy joint n (record { key = texts; count = one }) old new (waiting had) (waiting has)) e
    (subst (λ c. GrowsBy joint heading (record { key = texts; count = c }) old new (waiting had) (waiting has)) f
    (subst (λ w. GrowsBy joint heading (record { key = texts; count = more }) old new (waiting w) (waiting has)) g
    (subst (λ w. GrowsBy joint heading (record { key = texts; count = more }) old new (waiting waited) (waiting w)) h
    grows)))

pub next_row : (joint : Bool) (lines : List (List ℕ)) (line len texts : List ℕ) (fields : Option (List ℕ)) (bytes : ℕ)
    (old new : Rows) → old.has_heading ≡ true → TabulatesLines joint lines old → new.has_heading ≡ old.has_heading
    → new.heading ≡ old.heading → row_fields line ≡ len ∷ fields_if fields → texts ≡ unwrap_or fields []
    → bytes ≡ counted (decimal_value 0 len)
    → GrowsBy joint old.heading.bytes.items (record { key = texts; count = one_packet bytes }) (count_at old.counts)
    (count_at new.counts) (waiting old.slots.items) (waiting new.slots.items)
    → new.total ≡ plus (Some old.total) (one_packet bytes) → TabulatesLines joint (lines ++ line ∷ []) new
next_row joint [] line len texts fields bytes old new some so_far is heading parts named value grows total =
    let e : true ≡ false = sym some ∙ so_far.0.0 in absurd cc
next_row joint (h ∷ hs) line len texts fields bytes old new some so_far is heading parts named value grows total = (
  (is ∙ some, ap (λ t. t.bytes.items) heading ∙ so_far.0.1),
  (
    λ q. ap (λ t. join (count_at new.counts q)
        (count_of (spreads joint t.bytes.items (waiting new.slots.items)) q)) heading
        ∙ grows q
        ∙ ap (λ o. join o
        (count_of (spread joint old.heading.bytes.items (record { key = texts; count = one_packet bytes })) q))
        (so_far.1.0 q)
        ∙ ap (λ l. join (count_of (lines_hits joint (h ∷ hs)) q) (count_of l q))
        (sym (row_spread joint old.heading.bytes.items line len texts fields bytes parts named value)
        ∙ ap (λ t. row_hits joint t line) so_far.0.1)
        ∙ sym (count_append (flat_map (row_hits joint h) hs) (row_hits joint h line) q)
        ∙ ap (λ l. count_of (flat_map (row_hits joint h) hs ++ l) q) (sym (append-nil (row_hits joint h line)))
        ∙ ap (λ l. count_of l q) (sym (flat_map-append (row_hits joint h) hs (line ∷ []))),
    total ∙ ap (λ t. plus (Some t) (one_packet bytes)) so_far.1.1
        ∙ ap (λ b. plus (Some (total_of (h ∷ hs))) (one_packet b)) (value ∙ sym (ap fields_bytes parts))
        ∙ total_more h hs line,
  ),
)

has_same : (l : List (List ℕ)) (old : Rows) (line : HeapText) → HasHeading l old
    → HasHeading l (record old { line = line })
has_same [] old line (a, b) = (a, b)
has_same (h ∷ hs) old line (a, b) = (a, b)

-- the line goes on
pub line_goes_on : (joint : Bool) (text bytes : List ℕ) (old : Rows) (line : HeapText)
    → All (λ b. (b == 10) ≡ false) bytes → Tabulates joint text old
    → line.bytes.items ≡ old.line.bytes.items ++ bytes → Tabulates joint (text ++ bytes) (record old { line = line })
line_goes_on joint text bytes old line none so_far is =
    let lines : lines_of (text ++ bytes) ≡ lines_of text =
    pieces_after 10 [] text bytes ∙ ap (λ l. lines_of text ++ l) (pieces_none 10 (last_piece 10 [] text) bytes none)
    ∙ append-nil (lines_of text) in (
      subst (λ l. TabulatesLines joint l (record old { line = line })) (sym lines)
          (has_same (lines_of text) old line so_far.0.0, so_far.0.1),
      is ∙ ap (λ l. l ++ bytes) so_far.1 ∙ sym
          (last_after 10 [] text bytes ∙ last_none 10 (last_piece 10 [] text) bytes none),
    )

-- the line ends
pub line_ends : (joint : Bool) (text : List ℕ) (old mid : Rows) (line : HeapText) → Tabulates joint text old
    → TabulatesLines joint (lines_of text ++ old.line.bytes.items ∷ []) mid → line.bytes.items ≡ []
    → Tabulates joint (text ++ 10 ∷ []) (record mid { line = line })
line_ends joint text old mid line so_far taken is = (
  subst (λ l. TabulatesLines joint l (record mid { line = line }))
      (ap (λ l. lines_of text ++ l ∷ []) so_far.1 ∙ sym (pieces_after 10 [] text (10 ∷ [])))
      (has_same (lines_of text ++ old.line.bytes.items ∷ []) mid line taken.0, taken.1),
  is ∙ sym (last_after 10 [] text (10 ∷ [])),
)

-- what waits is counted, and all packets are
pub all_counted : (joint : Bool) (lines : List (List ℕ)) (old : Rows) (mid new : List ℕ → Option Count)
    → TabulatesLines joint lines old
    → Adds (spreads joint old.heading.bytes.items (waiting old.slots.items)) (count_at old.counts) mid
    → ((q : List ℕ) → new q ≡ (if bytes_eq (116 ∷ 111 ∷ 116 ∷ 97 ∷ 108 ∷ 9 ∷ []) q then Some old.total else mid q))
    → (q : List ℕ) → new q ≡ lines_counts joint lines q
all_counted joint lines old mid new so_far added inserted q =
    inserted q
    ∙ (λ i. if bytes_eq (116 ∷ 111 ∷ 116 ∷ 97 ∷ 108 ∷ 9 ∷ []) q then Some (so_far.1.1 i) else same i)
  where
    same : mid q ≡ count_of (lines_hits joint lines) q
    same = added q ∙ so_far.1.0 q

-- one line of a text was taken, and the rest is left
pub next_part : (bytes done rest before after : List ℕ) → bytes ≡ done ++ rest → SplitsAt 10 rest before after
    → bytes ≡ (done ++ (before ++ 10 ∷ [])) ++ after
next_part bytes done rest before after e is =
    e ∙ ap (λ l. done ++ l) (is.parts ∙ sym (append_assoc before (10 ∷ []) after))
    ∙ sym (append_assoc done (before ++ 10 ∷ []) after)
