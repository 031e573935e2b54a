-- Counts of rows that are cut in two.
use Rattle.std.proofs.Common.{◌≡◌, ℕ, ◌+◌, List, [], ◌∷◌, ◌++◌, length, map, Bool, true, false, Option, Some, None, refl, sym, ap, subst, ◌∙◌, arith, append-nil, length-append}
use Rattle.std.specs.Prelude.{filter, if◌then◌else◌}
use Rattle.std.specs.List.{AllByRecursion, flat_map, sum_by}
use Rattle.std.specs.List.Sorted.{IsStrictlySortedBy}
use Rattle.std.specs.Map.{lookup}
use Rattle.std.specs.Cmp.Lexicographic.{bytes_decides}
use Rattle.std.specs.Str.{bytes_eq}
use Rattle.std.proofs.lemmas.Grind.{flat_map-append}
use Rattle.std.proofs.lemmas.List.Elements.{filter-append}
use Rattle.std.proofs.lemmas.List.Sums.{sum_by-append}
use Rattle.ether_capture.specs.declared.count.Count.{Count}
use Rattle.ether_capture.specs.declared.statistics_format.StatisticsFormat.{StatisticsFormat}
use Rattle.ether_capture.specs.KeyCounts.{Hit, count_of, plus, sum_of}
use Rattle.ether_stream.specs.Packets.{counted}
use Rattle.ether_capture.specs.RowFields.{lines_counts, lines_hits, lines_of, row_bytes, row_hits, total_of}
use Rattle.ether_capture.specs.Statistics.{AreRows, IsStatistics, StatisticsRow}
use Rattle.ether_capture.specs.Merging.{AreCountLines, IsMerged}
use Rattle.ether_capture.specs.Waiting.{join}
use Rattle.ether_capture.proofs.KeyCountLemmas.{Fits, bytes_of, packets_of, same_count}
use Rattle.ether_capture.proofs.LackLemmas.{Lacks, counted_lacks, lines_lack, pieces_lack}
use Rattle.std.specs.Map.{keys_of}
use Rattle.std.proofs.lemmas.Map.Text.{is_eq-slice_cmp}
use Rattle.ether_capture.specs.declared.statistics_format.StatisticsFormat.TheVariants.{Text}
use Rattle.std.specs.Ordering.{is_eq}
use Rattle.std.specs.declared.cmp.Ordering.TheVariants.{Less}
use Rattle.std.proofs.lemmas.Map.Keys.{sorted_head, sorted_tail}
use Rattle.ether_capture.proofs.OneStatistics.{entry_of, found_same, keys_same, none_above, order, some_count}
use Rattle.ether_capture.proofs.MergingLemmas.{IsRead, both_lines, one_list, row_hit}

-- ---- sums

sum_append : (hits others : List Hit) → sum_of (hits ++ others) ≡ join (sum_of hits) (sum_of others)
sum_append [] others = refl
sum_append (h ∷ hs) [] = ap (λ l. sum_of (h ∷ l)) (append-nil hs)
sum_append (h ∷ hs) (k ∷ ks) =
    let packets = sum_by-append (λ (j : Hit). j.count.packets) (h ∷ hs) (k ∷ ks) in
    let bytes = sum_by-append (λ (j : Hit). j.count.bytes) (h ∷ hs) (k ∷ ks) in
    same_count (counted (packets_of ((h ∷ hs) ++ k ∷ ks))) (counted (bytes_of ((h ∷ hs) ++ k ∷ ks)))
    (counted (counted (packets_of (h ∷ hs)) + counted (packets_of (k ∷ ks))))
    (counted (counted (bytes_of (h ∷ hs)) + counted (bytes_of (k ∷ ks)))) (omega (arith, packets))
    (omega (arith, bytes))

pub count_append : (hits others : List Hit) (q : List ℕ)
    → count_of (hits ++ others) q ≡ join (count_of hits q) (count_of others q)
count_append hits others q =
    ap sum_of (filter-append (λ (k : Hit). bytes_eq k.key q) hits others)
    ∙ sum_append (filter (λ k. bytes_eq k.key q) hits) (filter (λ k. bytes_eq k.key q) others)

total_append : (heading : List ℕ) (rows others : List (List ℕ))
    → total_of (heading ∷ rows ++ others) ≡ plus (Some (total_of (heading ∷ rows))) (total_of (heading ∷ others))
total_append heading rows others =
    let long = length-append rows others in
    let sum = sum_by-append row_bytes rows others in
    let packets : counted (length (rows ++ others)) ≡ counted (counted (length rows) + counted (length others)) =
    omega (arith, long) in
    let bytes : counted (sum_by row_bytes (rows ++ others))
    ≡ counted (counted (sum_by row_bytes rows) + counted (sum_by row_bytes others)) = omega (arith, sum) in
    λ i. record { packets = packets i; bytes = bytes i }

-- the counts of rows are those of their parts together
pub parts_together : (joint : Bool) (heading : List ℕ) (rows others : List (List ℕ)) (q : List ℕ)
    → lines_counts joint (heading ∷ rows ++ others) q
    ≡ join (lines_counts joint (heading ∷ rows) q) (lines_counts joint (heading ∷ others) q)
parts_together joint heading rows others q =
    let counts : count_of (lines_hits joint (heading ∷ rows ++ others)) q
    ≡ join (count_of (lines_hits joint (heading ∷ rows)) q) (count_of (lines_hits joint (heading ∷ others)) q) =
    ap (λ l. count_of l q) (flat_map-append (row_hits joint heading) rows others)
    ∙ count_append (flat_map (row_hits joint heading) rows) (flat_map (row_hits joint heading) others) q in
    by (bytes_eq (116 ∷ 111 ∷ 116 ∷ 97 ∷ 108 ∷ 9 ∷ []) q) counts
  where
    by : (b : Bool) → count_of (lines_hits joint (heading ∷ rows ++ others)) q
        ≡ join (count_of (lines_hits joint (heading ∷ rows)) q) (count_of (lines_hits joint (heading ∷ others)) q)
        → (if b then Some (total_of (heading ∷ rows ++ others))
        else count_of (lines_hits joint (heading ∷ rows ++ others)) q)
        ≡ join (if b then Some (total_of (heading ∷ rows)) else count_of (lines_hits joint (heading ∷ rows)) q)
        (if b then Some (total_of (heading ∷ others)) else count_of (lines_hits joint (heading ∷ others)) q)
    by true counts = ap Some (total_append heading rows others)
    by false counts = counts

-- ---- the counts of a summary

abbrev entries : List StatisticsRow → List (List ℕ × Count)
entries = map entry_of

bytes_same : (xs ys : List ℕ) → bytes_eq xs ys ≡ bytes_eq ys xs
bytes_same xs ys = by (bytes_eq xs ys) (bytes_eq ys xs) refl refl
  where
    by : (b c : Bool) → bytes_eq xs ys ≡ b → bytes_eq ys xs ≡ c → b ≡ c
    by true true e f = refl
    by false false e f = refl
    by true false e f =
        let same : ys ≡ xs = sym ((bytes_decides xs ys).0 e) in
        let x : true ≡ false = sym ((bytes_decides ys xs).1 same) ∙ f in absurd cc
    by false true e f =
        let same : xs ≡ ys = sym ((bytes_decides ys xs).0 f) in
        let x : true ≡ false = sym ((bytes_decides xs ys).1 same) ∙ e in absurd cc

same_key : (k : List ℕ) → bytes_eq k k ≡ true
same_key k = (bytes_decides k k).1 refl

-- keys are in order
abbrev AreSorted : List StatisticsRow → Type 0
AreSorted rows = IsStrictlySortedBy order (map (λ r. r.key) rows)

below : (r : StatisticsRow) (rs : List StatisticsRow) → AreSorted (r ∷ rs)
    → AllByRecursion (λ k. order r.key k ≡ Less) (keys_of (entries rs))
below r rs sorted =
    sorted_head order r.key (keys_of (entries rs))
    (subst (IsStrictlySortedBy order) (keys_same (r ∷ rs)) sorted)

later_sorted : (r : StatisticsRow) (rs : List StatisticsRow) → AreSorted (r ∷ rs) → AreSorted rs
later_sorted r rs sorted = sorted_tail order r.key (map (λ q. q.key) rs) sorted

none_later : (r : StatisticsRow) (rs : List StatisticsRow) → AreSorted (r ∷ rs)
    → lookup (bytes_eq r.key) (entries rs) ≡ None
none_later r rs sorted = sym (found_same r.key (entries rs)) ∙ none_above r.key (entries rs) (below r rs sorted)

sum_none : (hits : List Hit) → sum_of hits ≡ None → hits ≡ []
sum_none [] e = refl
sum_none (h ∷ hs) e = absurd cc

pub one_sum : (h : Hit) → Fits h.count → sum_of (h ∷ []) ≡ Some h.count
one_sum h fits =
    same_count (counted (0 + h.count.packets)) (counted (0 + h.count.bytes)) h.count.packets h.count.bytes
    (omega (arith, fits.0)) (omega (arith, fits.1))

-- the counts of rows that are in order, each once, are theirs
rows_counted : (rows : List StatisticsRow) → AreSorted rows → AllByRecursion (λ r. Fits r.count) rows → (q : List ℕ)
    → count_of (map row_hit rows) q ≡ lookup (bytes_eq q) (entries rows)
rows_counted [] sorted fits q = refl
rows_counted (r ∷ rs) sorted fits q =
    by (bytes_eq r.key q) refl (rows_counted rs (later_sorted r rs sorted) fits.1 q)
  where
    rest : List Hit
    rest = filter (λ k. bytes_eq k.key q) (map row_hit rs)

    by : (b : Bool) → bytes_eq r.key q ≡ b → sum_of rest ≡ lookup (bytes_eq q) (entries rs)
        → sum_of (if bytes_eq r.key q then row_hit r ∷ rest else rest)
        ≡ (if bytes_eq q r.key then Some r.count else lookup (bytes_eq q) (entries rs))
    by true is later =
        let key = (bytes_decides r.key q).0 is in
        let none : lookup (bytes_eq q) (entries rs) ≡ None =
        ap (λ k. lookup (bytes_eq k) (entries rs)) (sym key) ∙ none_later r rs sorted in
        let empty : rest ≡ [] = sum_none rest (later ∙ none) in
        ap (λ (b : Bool). sum_of (if b then row_hit r ∷ rest else rest)) is ∙ ap (λ l. sum_of (row_hit r ∷ l)) empty
        ∙ one_sum (row_hit r) fits.0
        ∙ sym
        (ap (λ (b : Bool). if b then Some r.count else lookup (bytes_eq q) (entries rs)) (bytes_same q r.key ∙ is))
    by false is later =
        ap (λ (b : Bool). sum_of (if b then row_hit r ∷ rest else rest)) is ∙ later
        ∙ sym
        (ap (λ (b : Bool). if b then Some r.count else lookup (bytes_eq q) (entries rs)) (bytes_same q r.key ∙ is))

-- each row is found
step_found : (r : StatisticsRow) (rs : List StatisticsRow) (es : List (List ℕ × Count))
    → AllByRecursion (λ k. order r.key k ≡ Less) (keys_of (entries rs))
    → AllByRecursion (λ q. lookup (bytes_eq q.key) es ≡ Some q.count) rs
    → AllByRecursion (λ q. lookup (bytes_eq q.key) (entry_of r ∷ es) ≡ Some q.count) rs
step_found r [] es less all = tt
step_found r (q ∷ qs) es less all = (here, step_found r qs es less.1 all.1)
  where
    other : is_eq (order r.key q.key) ≡ false
    other = ap is_eq less.0

    here : lookup (bytes_eq q.key) (entry_of r ∷ es) ≡ Some q.count
    here =
        ap (λ (b : Bool). if b then Some r.count else lookup (bytes_eq q.key) es)
        (bytes_same q.key r.key ∙ sym (is_eq-slice_cmp r.key q.key) ∙ other)
        ∙ all.0

each_found : (rows : List StatisticsRow) → AreSorted rows
    → AllByRecursion (λ r. lookup (bytes_eq r.key) (entries rows) ≡ Some r.count) rows
each_found [] sorted = tt
each_found (r ∷ rs) sorted = (
  ap (λ (b : Bool). if b then Some r.count else lookup (bytes_eq r.key) (entries rs)) (same_key r.key),
  step_found r rs (entries rs) (below r rs sorted) (each_found rs (later_sorted r rs sorted)),
)

-- ---- rows of counts can be read again

sum_fits : (hits : List Hit) (c : Count) → sum_of hits ≡ Some c → Fits c
sum_fits [] c e = absurd cc
sum_fits (h ∷ hs) c e =
    let some : record { packets = counted (packets_of (h ∷ hs)); bytes = counted (bytes_of (h ∷ hs)) } ≡ c =
    some_count _ c e in
    let packets = ap (λ (d : Count). d.packets) some in
    let bytes = ap (λ (d : Count). d.bytes) some in (omega (arith, packets), omega (arith, bytes))

total_fits : (lines : List (List ℕ)) → Fits (total_of lines)
total_fits [] = (omega arith, omega arith)
total_fits (heading ∷ rows) = (omega arith, omega arith)

-- what is counted can be read
key_read : (joint : Bool) (lines : List (List ℕ)) → AllByRecursion (Lacks 10) lines → (q : List ℕ) (c : Count)
    → lines_counts joint lines q ≡ Some c → Lacks 10 q × Fits c
key_read joint lines lack q c e = by (bytes_eq (116 ∷ 111 ∷ 116 ∷ 97 ∷ 108 ∷ 9 ∷ []) q) refl e
  where
    by : (b : Bool) → bytes_eq (116 ∷ 111 ∷ 116 ∷ 97 ∷ 108 ∷ 9 ∷ []) q ≡ b
        → (if b then Some (total_of lines) else count_of (lines_hits joint lines) q) ≡ Some c → Lacks 10 q × Fits c
    by true is some = (
      subst (Lacks 10) ((bytes_decides (116 ∷ 111 ∷ 116 ∷ 97 ∷ 108 ∷ 9 ∷ []) q).0 is)
          (refl, (refl, (refl, (refl, (refl, (refl, tt)))))),
      subst Fits (some_count (total_of lines) c some) (total_fits lines),
    )
    by false is some = (
      counted_lacks (lines_hits joint lines) (lines_lack joint lines lack) q c some,
      sum_fits (filter (λ k. bytes_eq k.key q) (lines_hits joint lines)) c some,
    )

all_read : (table : List ℕ → Option Count) (all rows : List StatisticsRow)
    → ((q : List ℕ) (c : Count) → table q ≡ Some c → Lacks 10 q × Fits c)
    → ((q : List ℕ) → lookup (bytes_eq q) (entries all) ≡ table q)
    → AllByRecursion (λ r. lookup (bytes_eq r.key) (entries all) ≡ Some r.count) rows → AllByRecursion IsRead rows
all_read table all [] readable exact found = tt
all_read table all (r ∷ rs) readable exact found =
    (readable r.key r.count (sym (exact r.key) ∙ found.0), all_read table all rs readable exact found.1)

all_fit : (rows : List StatisticsRow) → AllByRecursion IsRead rows → AllByRecursion (λ r. Fits r.count) rows
all_fit [] read = tt
all_fit (r ∷ rs) read = (read.0.1, all_fit rs read.1)

rows_read : (joint : Bool) (text : List ℕ) (rows : List StatisticsRow)
    → AreRows (lines_counts joint (lines_of text)) rows → AllByRecursion IsRead rows
rows_read joint text rows are =
    all_read (lines_counts joint (lines_of text)) rows rows
    (key_read joint (lines_of text) (pieces_lack 10 [] text tt)) are.exact (each_found rows are.sorted)

rows_table : (joint : Bool) (text : List ℕ) (rows : List StatisticsRow)
    → AreRows (lines_counts joint (lines_of text)) rows → (q : List ℕ)
    → count_of (map row_hit rows) q ≡ lines_counts joint (lines_of text) q
rows_table joint text rows are q =
    rows_counted rows are.sorted (all_fit rows (rows_read joint text rows are)) q ∙ are.exact q

-- ---- the law

pub counts_add_up : (joint : Bool) (format : StatisticsFormat) (heading : List ℕ) (rows others : List (List ℕ))
    (a b text first second merged : List ℕ) → lines_of a ≡ heading ∷ rows → lines_of b ≡ heading ∷ others
    → lines_of text ≡ heading ∷ rows ++ others → IsStatistics joint Text a first → IsStatistics joint Text b second
    → IsMerged format (first ++ second) merged → IsStatistics joint format text merged
counts_add_up joint format heading rows others a b text first second merged in_a in_b in_text s t m = record {
  rows = m.rows;
  are_rows = subst (λ table. AreRows table m.rows) (λ i q. same q i) m.are_rows;
  is_text = m.is_text;
}
  where
    hits : m.hits ≡ map row_hit s.rows ++ map row_hit t.rows
    hits =
        one_list (lines_of (first ++ second)) m.hits (map row_hit s.rows ++ map row_hit t.rows) m.counts
        (subst (λ l. AreCountLines (lines_of l) (map row_hit s.rows ++ map row_hit t.rows))
        (λ i. sym s.is_text i ++ sym t.is_text i)
        (both_lines s.rows t.rows (rows_read joint a s.rows s.are_rows) (rows_read joint b t.rows t.are_rows)))

    same : (q : List ℕ) → count_of m.hits q ≡ lines_counts joint (lines_of text) q
    same q =
        ap (λ l. count_of l q) hits ∙ count_append (map row_hit s.rows) (map row_hit t.rows) q
        ∙ (λ i. join (rows_table joint a s.rows s.are_rows q i) (rows_table joint b t.rows t.are_rows q i))
        ∙ (λ i. join (lines_counts joint (in_a i) q) (lines_counts joint (in_b i) q))
        ∙ sym (parts_together joint heading rows others q) ∙ ap (λ l. lines_counts joint l q) (sym in_text)
