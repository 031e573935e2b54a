-- The rows of a table, in order.
use Rattle.std.proofs.Common.{◌≡◌, ℕ, List, [], ◌∷◌, ◌++◌, map, cond, Some, refl, sym, ap, ◌∙◌, append_assoc, append-nil}
use Rattle.std.specs.Global.{Vec}
use Rattle.std.specs.Ordering.{is_eq, nat_cmp}
use Rattle.std.specs.declared.cmp.Ordering.TheVariants.{Less}
use Rattle.std.specs.Cmp.Lexicographic.{slice_cmp}
use Rattle.std.specs.List.{AllByRecursion, flat_map}
use Rattle.std.specs.List.Sorted.{IsStrictlySortedBy}
use Rattle.std.specs.BTreeMap.{BTreeMap}
use Rattle.std.specs.Map.{lookup, keys_of}
use Rattle.std.specs.Str.{bytes_eq}
use Rattle.std.proofs.lemmas.Map.Text.{is_eq-slice_cmp}
use Rattle.std.proofs.lemmas.List.Folds.{flat_map-map}
use Rattle.ether_capture.specs.declared.count.Count.{Count}
use Rattle.ether_capture.specs.declared.statistics_format.StatisticsFormat.{StatisticsFormat}
use Rattle.ether_capture.specs.Statistics.{AreRows, StatisticsRow, statistics_line}
use Rattle.ether_capture.proofs.CountTableLemmas.{at}

abbrev pub row_of : Vec ℕ × Count → StatisticsRow
row_of e = record { key = e.0.items; count = e.1 }

abbrev pub entry_line : StatisticsFormat → Vec ℕ × Count → List ℕ
entry_line format e = statistics_line format (row_of e)

sorted_keys : (es : List (Vec ℕ × Count)) → IsStrictlySortedBy (λ x y. slice_cmp nat_cmp x.items y.items) (keys_of es)
    → IsStrictlySortedBy (slice_cmp nat_cmp) (map (λ r. r.key) (map row_of es))
unfolding IsStrictlySortedBy
sorted_keys [] sorted = tt
sorted_keys (e ∷ es) sorted = (below es sorted.0, sorted_keys es sorted.1)
  where
    below : (fs : List (Vec ℕ × Count)) → AllByRecursion (λ y. slice_cmp nat_cmp e.0.items y.items ≡ Less) (keys_of fs)
        → AllByRecursion (λ y. slice_cmp nat_cmp e.0.items y ≡ Less) (map (λ r. r.key) (map row_of fs))
    below [] all = tt
    below (f ∷ fs) all = (all.0, below fs all.1)

found_rows : (key : List ℕ) (es : List (Vec ℕ × Count))
    → lookup (bytes_eq key) (map (λ r. (r.key, r.count)) (map row_of es))
    ≡ lookup (λ k. is_eq (slice_cmp nat_cmp key k.items)) es
found_rows key [] = refl
found_rows key (e ∷ es) =
    let same : bytes_eq key e.0.items ≡ is_eq (slice_cmp nat_cmp key e.0.items) = sym (is_eq-slice_cmp key e.0.items) in
    (λ i. cond (same i) (Some e.1) (found_rows key es i))

pub are_rows : (m : BTreeMap (Vec ℕ) Count)
    → IsStrictlySortedBy (λ x y. slice_cmp nat_cmp x.items y.items) (keys_of m.entries)
    → AreRows (at m) (map row_of m.entries)
are_rows m sorted = record { sorted = sorted_keys m.entries sorted; exact = λ key. found_rows key m.entries }

pub lines_text : (format : StatisticsFormat) (es : List (Vec ℕ × Count))
    → flat_map (entry_line format) es ≡ flat_map (statistics_line format) (map row_of es)
lines_text format es = sym (flat_map-map (statistics_line format) row_of es)

pub next_line : (format : StatisticsFormat) (text : List ℕ) (es left more : List (Vec ℕ × Count)) (e : Vec ℕ × Count)
    → text ++ flat_map (entry_line format) left ≡ flat_map (entry_line format) es → left ≡ e ∷ more
    → (text ++ entry_line format e) ++ flat_map (entry_line format) more ≡ flat_map (entry_line format) es
next_line format text es left more e so_far is =
    append_assoc text (entry_line format e) (flat_map (entry_line format) more)
    ∙ ap (λ l. text ++ flat_map (entry_line format) l) (sym is) ∙ so_far

pub all_lines : (format : StatisticsFormat) (text : List ℕ) (es left : List (Vec ℕ × Count))
    → text ++ flat_map (entry_line format) left ≡ flat_map (entry_line format) es → left ≡ []
    → text ≡ flat_map (statistics_line format) (map row_of es)
all_lines format text es left so_far is =
    sym (append-nil text) ∙ ap (λ l. text ++ flat_map (entry_line format) l) (sym is) ∙ so_far ∙ lines_text format es
