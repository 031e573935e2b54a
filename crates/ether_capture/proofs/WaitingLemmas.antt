-- Rows whose texts wait to be counted.
use Rattle.std.proofs.Common.{◌≡◌, ℕ, suc, ◌+◌, ◌<◌, List, [], ◌∷◌, ◌++◌, length, take, drop, slice_set, slice_index_or, Bool, true, false, Option, Some, None, refl, sym, ap, subst, ◌∙◌, arith, append-nil}
use Rattle.std.specs.Prelude.{if◌then◌else◌}
use Rattle.std.specs.Str.{bytes_eq}
use Rattle.std.proofs.lemmas.Grind.{flat_map-append}
use Rattle.std.proofs.lemmas.List.{length-take-le}
use Rattle.std.proofs.Math.Seq.{set-append_seam, split_at}
use Rattle.ether_capture.specs.declared.count.Count.{Count}
use Rattle.ether_capture.specs.KeyCounts.{AddsHit, Hit, count_of, plus, sum_of}
use Rattle.ether_stream.specs.Packets.{counted}
use Rattle.ether_capture.specs.RowFields.{after_first, row_fields, row_keys}
use Rattle.ether_capture.specs.Waiting.{Adds, GrowsBy, hits_if, hits_of, join, slot_hits, spread, spreads, waiting}
use Rattle.ether_capture.specs.declared.row_slot.RowSlot.{RowSlot}
use Rattle.ether_capture.proofs.KeyCountLemmas.{Fits, same_count}
use Rattle.ether_capture.proofs.MergeLawLemmas.{count_append, one_sum}

join_none : (a : Option Count) → join a None ≡ a
join_none None = refl
join_none (Some a) = refl

pub join_assoc : (a b c : Option Count) → join (join a b) c ≡ join a (join b c)
join_assoc None b c = refl
join_assoc (Some a) None c = refl
join_assoc (Some a) (Some b) None = refl
join_assoc (Some a) (Some b) (Some c) =
    same_count (counted (counted (a.packets + b.packets) + c.packets)) (counted (counted (a.bytes + b.bytes) + c.bytes))
    (counted (a.packets + counted (b.packets + c.packets))) (counted (a.bytes + counted (b.bytes + c.bytes)))
    (omega arith) (omega arith)

pub join_swap : (a b : Option Count) → join a b ≡ join b a
join_swap None None = refl
join_swap None (Some b) = refl
join_swap (Some a) None = refl
join_swap (Some a) (Some b) =
    same_count (counted (a.packets + b.packets)) (counted (a.bytes + b.bytes)) (counted (b.packets + a.packets))
    (counted (b.bytes + a.bytes)) (omega arith) (omega arith)

-- the last two change places
pub join_turn : (a b c : Option Count) → join (join a b) c ≡ join (join a c) b
join_turn a b c = join_assoc a b c ∙ ap (join a) (join_swap b c) ∙ sym (join_assoc a c b)

join_pairs : (a b c d : Option Count) → join (join a b) (join c d) ≡ join (join a c) (join b d)
join_pairs a b c d =
    sym (join_assoc (join a b) c d) ∙ ap (λ x. join x d) (join_turn a b c) ∙ join_assoc (join a c) b d

-- ---- packets that are added

pub adds_none : (table : List ℕ → Option Count) → Adds [] table table
adds_none table q = sym (join_none (table q))

pub adds_one : (h : Hit) (old new : List ℕ → Option Count) → Fits h.count → AddsHit h old new → Adds (h ∷ []) old new
adds_one h old new fits more q = more q ∙ by (bytes_eq h.key q)
  where
    with_one : (o : Option Count) → Some (plus o h.count) ≡ join o (Some h.count)
    with_one None = refl
    with_one (Some c) = refl

    by : (b : Bool) → (if b then Some (plus (old q) h.count) else old q)
        ≡ join (old q) (sum_of (if b then h ∷ [] else []))
    by true = with_one (old q) ∙ ap (join (old q)) (sym (one_sum h fits))
    by false = sym (join_none (old q))

pub adds_then : (hits more : List Hit) (old mid new : List ℕ → Option Count) → Adds hits old mid → Adds more mid new
    → Adds (hits ++ more) old new
adds_then hits more old mid new a b q =
    b q ∙ ap (λ o. join o (count_of more q)) (a q) ∙ join_assoc (old q) (count_of hits q) (count_of more q)
    ∙ ap (join (old q)) (sym (count_append hits more q))

-- ---- more packets with the same texts

one_more : (key : List ℕ) (k c : Count) (q : List ℕ)
    → count_of (record { key = key; count = plus (Some k) c } ∷ []) q
    ≡ join (count_of (record { key = key; count = k } ∷ []) q) (count_of (record { key = key; count = c } ∷ []) q)
one_more key k c q = by (bytes_eq key q)
  where
    by : (b : Bool)
        → sum_of (if b then record { key = key; count = plus (Some k) c } ∷ [] else [])
        ≡ join (sum_of (if b then record { key = key; count = k } ∷ [] else []))
        (sum_of (if b then record { key = key; count = c } ∷ [] else []))
    by true =
        same_count (counted (0 + counted (k.packets + c.packets))) (counted (0 + counted (k.bytes + c.bytes)))
        (counted (counted (0 + k.packets) + counted (0 + c.packets)))
        (counted (counted (0 + k.bytes) + counted (0 + c.bytes))) (omega arith) (omega arith)
    by false = refl

pub more_under : (keys : List (List ℕ)) (k c : Count) (q : List ℕ)
    → count_of (hits_of (plus (Some k) c) keys) q ≡ join (count_of (hits_of k keys) q) (count_of (hits_of c keys) q)
more_under [] k c q = refl
more_under (key ∷ keys) k c q =
    let first = one_more key k c q in
    let others = more_under keys k c q in
    count_append (record { key = key; count = plus (Some k) c } ∷ []) (hits_of (plus (Some k) c) keys) q
    ∙ (λ i. join (first i) (others i))
    ∙ join_pairs (count_of (record { key = key; count = k } ∷ []) q) (count_of (record { key = key; count = c } ∷ []) q)
    (count_of (hits_of k keys) q) (count_of (hits_of c keys) q)
    ∙ (λ i. join (sym (count_append (record { key = key; count = k } ∷ []) (hits_of k keys) q) i)
    (sym (count_append (record { key = key; count = c } ∷ []) (hits_of c keys) q) i))

-- ---- slots

one_spread : (joint : Bool) (heading : List ℕ) (h : Hit) → spreads joint heading (h ∷ []) ≡ spread joint heading h
one_spread joint heading h = append-nil (spread joint heading h)

-- the packets of a slot are counted
pub counts_slot : (joint : Bool) (heading texts : List ℕ) (waits : Option Count) (count : Count)
    (old new : List ℕ → Option Count) → waits ≡ Some count
    → Adds (spread joint heading (record { key = texts; count = count })) old new
    → Adds (spreads joint heading (hits_if texts waits)) old new
counts_slot joint heading texts waits count old new is added =
    subst (λ l. Adds l old new)
    (sym (ap (λ w. spreads joint heading (hits_if texts w)) is
    ∙ one_spread joint heading (record { key = texts; count = count }))) added

-- .. and others take their place
pub takes_place : (joint : Bool) (heading : List ℕ) (h : Hit) (waited : List Hit) (old new : List ℕ → Option Count)
    → Adds (spreads joint heading waited) old new → GrowsBy joint heading h old new waited (h ∷ [])
takes_place joint heading h waited old new added q =
    (λ i. join (added q i) (count_of (one_spread joint heading h i) q))

-- .. or more of them come
pub joins_slot : (joint : Bool) (heading waited texts : List ℕ) (waits : Option Count) (k c : Count)
    (table : List ℕ → Option Count) → waits ≡ Some k → waited ≡ texts
    → GrowsBy joint heading (record { key = texts; count = c }) table table (hits_if waited waits)
    (record { key = waited; count = plus (Some k) c } ∷ [])
joins_slot joint heading waited texts waits k c table is same q =
    let keys = row_keys joint (after_first (row_fields heading)) (row_fields waited) in
    ap (λ l. join (table q) (count_of l q))
    (one_spread joint heading (record { key = waited; count = plus (Some k) c }))
    ∙ ap (join (table q)) (more_under keys k c q)
    ∙ sym (join_assoc (table q) (count_of (hits_of k keys) q) (count_of (hits_of c keys) q))
    ∙ (λ i. join (join (table q) (count_of (sym (one_spread joint heading (record { key = waited; count = k })) i) q))
    (count_of (spread joint heading (record { key = same i; count = c })) q))
    ∙ ap (λ w. join (join (table q) (count_of (spreads joint heading (hits_if waited w)) q))
    (count_of (spread joint heading (record { key = texts; count = c })) q)) (sym is)

-- packets that do not wait
pub counts_at_once : (joint : Bool) (heading : List ℕ) (h : Hit) (waited : List Hit) (old new : List ℕ → Option Count)
    → Adds (spread joint heading h) old new → GrowsBy joint heading h old new waited waited
counts_at_once joint heading h waited old new added q =
    ap (λ o. join o (count_of (spreads joint heading waited) q)) (added q)
    ∙ join_turn (old q) (count_of (spread joint heading h) q) (count_of (spreads joint heading waited) q)

-- .. in one of several slots
pub grows_among : (joint : Bool) (heading : List ℕ) (h : Hit) (old new : List ℕ → Option Count)
    (before waited waits after : List Hit) → GrowsBy joint heading h old new waited waits
    → GrowsBy joint heading h old new (before ++ (waited ++ after)) (before ++ (waits ++ after))
grows_among joint heading h old new before waited waits after grows q =
    let sum : (l : List Hit) → count_of (spreads joint heading (before ++ (l ++ after))) q
    ≡ join (count_of (spreads joint heading l) q)
    (join (count_of (spreads joint heading before) q) (count_of (spreads joint heading after) q)) =
    λ l. ap (λ s. count_of s q) (flat_map-append (spread joint heading) before (l ++ after))
    ∙ count_append (spreads joint heading before) (spreads joint heading (l ++ after)) q
    ∙ ap (join (count_of (spreads joint heading before) q))
    (ap (λ s. count_of s q) (flat_map-append (spread joint heading) l after)
    ∙ count_append (spreads joint heading l) (spreads joint heading after) q)
    ∙ sym (join_assoc (count_of (spreads joint heading before) q) (count_of (spreads joint heading l) q)
    (count_of (spreads joint heading after) q))
    ∙ ap (λ o. join o (count_of (spreads joint heading after) q))
    (join_swap (count_of (spreads joint heading before) q) (count_of (spreads joint heading l) q))
    ∙ join_assoc (count_of (spreads joint heading l) q) (count_of (spreads joint heading before) q)
    (count_of (spreads joint heading after) q) in
    let others = join (count_of (spreads joint heading before) q) (count_of (spreads joint heading after) q) in
    ap (join (new q)) (sum waits) ∙ sym (join_assoc (new q) (count_of (spreads joint heading waits) q) others)
    ∙ ap (λ o. join o others) (grows q)
    ∙ join_turn (join (old q) (count_of (spreads joint heading waited) q)) (count_of (spread joint heading h) q) others
    ∙ ap (λ o. join o (count_of (spread joint heading h) q))
    (join_assoc (old q) (count_of (spreads joint heading waited) q) others ∙ ap (join (old q)) (sym (sum waited)))

pub grows_at : (joint : Bool) (heading : List ℕ) (h : Hit) (old new : List ℕ → Option Count) (slots : List RowSlot)
    (at : ℕ) (other next : RowSlot) → at < length slots
    → GrowsBy joint heading h old new (slot_hits (slice_index_or slots at other)) (slot_hits next)
    → GrowsBy joint heading h old new (waiting slots) (waiting (slice_set slots at next))
grows_at joint heading h old new slots at other next lt grows =
    let before = take at slots in
    let slot = slice_index_or slots at other in
    let after = drop (suc at) slots in
    let parts : slots ≡ before ++ slot ∷ after = split_at slots at other lt in
    let long : at ≡ length before = sym (length-take-le at slots (omega (arith, lt))) in
    let others : slice_set slots at next ≡ before ++ next ∷ after =
    (λ i. slice_set (parts i) (long i) next) ∙ set-append_seam before slot after next in
    subst (λ l. GrowsBy joint heading h old new (waiting slots) l)
    (sym (ap waiting others ∙ flat_map-append slot_hits before (next ∷ after)))
    (subst
    (λ l. GrowsBy joint heading h old new l (waiting before ++ (slot_hits next ++ waiting after)))
    (sym (ap waiting parts ∙ flat_map-append slot_hits before (slot ∷ after)))
    (grows_among joint heading h old new (waiting before) (slot_hits slot) (slot_hits next) (waiting after) grows))
