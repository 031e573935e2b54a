-- A table has one list of rows in order.
use Rattle.std.proofs.Common.{◌≡◌, ℕ, List, [], ◌∷◌, map, Bool, true, false, cond, Option, Some, None, unwrap_or, refl, sym, ap, subst, ◌∙◌}
use Rattle.std.specs.List.{AllByRecursion, flat_map}
use Rattle.std.specs.List.Sorted.{IsStrictlySortedBy}
use Rattle.std.specs.Ordering.{is_eq, nat_cmp, ordering_reverse}
use Rattle.std.specs.declared.cmp.Ordering.{Ordering}
use Rattle.std.specs.declared.cmp.Ordering.TheVariants.{Less, Equal, Greater}
use Rattle.std.specs.Cmp.Lexicographic.{nat_list_cmp_total, slice_cmp}
use Rattle.std.specs.Map.{keys_of, lookup}
use Rattle.std.specs.Str.{bytes_eq}
use Rattle.std.proofs.lemmas.Map.Keys.{sorted_head, sorted_tail}
use Rattle.std.proofs.lemmas.Map.Lookups.{exact_bytes}
use Rattle.std.proofs.lemmas.Map.Text.{is_eq-slice_cmp}
use Rattle.ether_capture.specs.declared.count.Count.{Count}
use Rattle.ether_capture.specs.declared.statistics_format.StatisticsFormat.{StatisticsFormat}
use Rattle.ether_capture.specs.RowFields.{lines_counts, lines_of}
use Rattle.ether_capture.specs.Statistics.{AreRows, IsStatistics, StatisticsRow, statistics_line}

abbrev pub order : List ℕ → List ℕ → Ordering
order = slice_cmp nat_cmp

abbrev pub found : List ℕ → List (List ℕ × Count) → Option Count
found q es = lookup (λ k. is_eq (order q k)) es

self_equal : (k : List ℕ) → order k k ≡ Equal
self_equal k = by (order k k) (nat_list_cmp_total.antisymm k k)
  where
    by : (r : Ordering) → r ≡ ordering_reverse r → r ≡ Equal
    by Less e = absurd cc
    by Equal e = refl
    by Greater e = absurd cc

head_found : (e : List ℕ × Count) (es : List (List ℕ × Count)) → found e.0 (e ∷ es) ≡ Some e.1
head_found e es = λ i. cond (is_eq (self_equal e.0 i)) (Some e.1) (found e.0 es)

pub none_above : (q : List ℕ) (es : List (List ℕ × Count)) → AllByRecursion (λ k. order q k ≡ Less) (keys_of es)
    → found q es ≡ None
none_above q [] all = refl
none_above q (e ∷ es) all = (λ i. cond (is_eq (all.0 i)) (Some e.1) (found q es)) ∙ none_above q es all.1

pub all_less : (a b : List ℕ) → order a b ≡ Less → (ks : List (List ℕ)) → AllByRecursion (λ k. order b k ≡ Less) ks
    → AllByRecursion (λ k. order a k ≡ Less) ks
all_less a b less [] all = tt
all_less a b less (k ∷ ks) all = (nat_list_cmp_total.trans a b k less all.0, all_less a b less ks all.1)

not_before : (e f : List ℕ × Count) (es fs : List (List ℕ × Count)) → IsStrictlySortedBy order (keys_of (f ∷ fs))
    → order e.0 f.0 ≡ Less
    → found e.0 (e ∷ es) ≡ found e.0 (f ∷ fs) → ⊥
not_before e f es fs sorted less same =
    let none : Some e.1 ≡ None = sym (head_found e es) ∙ same
    ∙ none_above e.0 (f ∷ fs) (less, all_less e.0 f.0 less (keys_of fs) (sorted_head order f.0 (keys_of fs) sorted)) in
    absurd cc

tails_same : (e f : List ℕ × Count) (es fs : List (List ℕ × Count)) → IsStrictlySortedBy order (keys_of (e ∷ es))
    → IsStrictlySortedBy order (keys_of (f ∷ fs)) → e.0 ≡ f.0 → ((q : List ℕ) → found q (e ∷ es) ≡ found q (f ∷ fs))
    → (q : List ℕ) → found q es ≡ found q fs
tails_same e f es fs s t key same q = by (is_eq (order q e.0)) refl
  where
    by : (b : Bool) → is_eq (order q e.0) ≡ b → found q es ≡ found q fs
    by true is =
        let here = is_equal (order q e.0) is in
        let at : q ≡ e.0 = exact_bytes q e.0 here in
        let left = none_above e.0 es (sorted_head order e.0 (keys_of es) s) in
        let right = none_above f.0 fs (sorted_head order f.0 (keys_of fs) t) in
        ap (λ k. found k es) at ∙ left ∙ sym right ∙ ap (λ k. found k fs) (sym (at ∙ key))
      where
        is_equal : (r : Ordering) → is_eq r ≡ true → r ≡ Equal
        is_equal Less e = absurd cc
        is_equal Equal e = refl
        is_equal Greater e = absurd cc
    by false is =
        let other : is_eq (order q f.0) ≡ false = ap (λ k. is_eq (order q k)) (sym key) ∙ is in
        (λ i. cond (sym is i) (Some e.1) (found q es)) ∙ same q ∙ (λ i. cond (other i) (Some f.1) (found q fs))

pub some_count : (a b : Count) → Some a ≡ Some b → a ≡ b
some_count a b e = ap (λ (o : Option Count). unwrap_or o a) e

one_list : (es fs : List (List ℕ × Count)) → IsStrictlySortedBy order (keys_of es)
    → IsStrictlySortedBy order (keys_of fs)
    → ((q : List ℕ) → found q es ≡ found q fs) → es ≡ fs
one_list [] [] s t same = refl
one_list [] (f ∷ fs) s t same = let none : None ≡ Some f.1 = same f.0 ∙ head_found f fs in absurd cc
one_list (e ∷ es) [] s t same = let none : None ≡ Some e.1 = sym (same e.0) ∙ head_found e es in absurd cc
one_list (e ∷ es) (f ∷ fs) s t same =
    by (order e.0 f.0) refl (one_list es fs (sorted_tail order e.0 (keys_of es) s)
    (sorted_tail order f.0 (keys_of fs) t))
  where
    by : (r : Ordering) → order e.0 f.0 ≡ r → (((q : List ℕ) → found q es ≡ found q fs) → es ≡ fs) → (e ∷ es) ≡ (f ∷ fs)
    by Less is tail = absurd (not_before e f es fs t is (same e.0))
    by Greater is tail =
        let less : order f.0 e.0 ≡ Less = nat_list_cmp_total.antisymm f.0 e.0 ∙ ap ordering_reverse is in
        absurd (not_before f e fs es s less (sym (same f.0)))
    by Equal is tail =
        let key = exact_bytes e.0 f.0 is in
        let count : Some e.1 ≡ Some f.1 =
        sym (head_found e es) ∙ same e.0 ∙ ap (λ k. found k (f ∷ fs)) key ∙ head_found f fs in
        let value = some_count e.1 f.1 count in
        λ i. (key i, value i) ∷ tail (tails_same e f es fs s t key same) i

abbrev pub entry_of : StatisticsRow → List ℕ × Count
entry_of r = (r.key, r.count)

abbrev row_back : List ℕ × Count → StatisticsRow
row_back e = record { key = e.0; count = e.1 }

rows_back : (rows : List StatisticsRow) → map row_back (map entry_of rows) ≡ rows
rows_back [] = refl
rows_back (r ∷ rs) = ap (λ l. r ∷ l) (rows_back rs)

pub keys_same : (rows : List StatisticsRow) → map (λ r. r.key) rows ≡ keys_of (map entry_of rows)
keys_same [] = refl
keys_same (r ∷ rs) = ap (λ l. r.key ∷ l) (keys_same rs)

pub found_same : (q : List ℕ) (es : List (List ℕ × Count)) → found q es ≡ lookup (bytes_eq q) es
found_same q es = λ i. lookup (λ k. is_eq-slice_cmp q k i) es

one_table : (table : List ℕ → Option Count) (rows others : List StatisticsRow) → AreRows table rows
    → AreRows table others → rows ≡ others
one_table table rows others a b =
    let same : map entry_of rows ≡ map entry_of others =
    one_list (map entry_of rows) (map entry_of others) (subst (IsStrictlySortedBy order) (keys_same rows) a.sorted)
    (subst (IsStrictlySortedBy order) (keys_same others) b.sorted)
    (λ q. found_same q (map entry_of rows) ∙ a.exact q ∙ sym (b.exact q) ∙ sym (found_same q (map entry_of others))) in
    sym (rows_back rows) ∙ ap (map row_back) same ∙ rows_back others

pub one_statistics : (joint : Bool) (format : StatisticsFormat) (text a b : List ℕ) → IsStatistics joint format text a
    → IsStatistics joint format text b → a ≡ b
one_statistics joint format text a b s t =
    s.is_text ∙ ap (flat_map (statistics_line format))
    (one_table (lines_counts joint (lines_of text)) s.rows t.rows s.are_rows t.are_rows)
    ∙ sym t.is_text
