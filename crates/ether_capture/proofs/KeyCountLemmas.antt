-- Packets that are counted one after the other.
use Rattle.std.proofs.Common.{◌≡◌, ℕ, ◌+◌, ◌≤◌, List, [], ◌∷◌, ◌++◌, Bool, true, false, Option, Some, refl, sym, ap, ◌∙◌, arith, append-nil}
use Rattle.std.specs.Prelude.{◌^◌, ◌-◌, filter, if◌then◌else◌}
use Rattle.std.specs.Str.{bytes_eq}
use Rattle.std.specs.List.{sum_by}
use Rattle.std.proofs.lemmas.List.Elements.{filter-append}
use Rattle.std.proofs.lemmas.List.Sums.{sum_by_push}
use Rattle.ether_capture.specs.declared.count.Count.{Count}
use Rattle.ether_capture.specs.KeyCounts.{CountHits, AddsHit, Hit, count_of, plus, sum_of}
use Rattle.ether_stream.specs.Packets.{counted}

pub same_count : (a b c d : ℕ) → a ≡ c → b ≡ d
    → ◌≡◌ {A = Option Count} (Some (record { packets = a; bytes = b })) (Some (record { packets = c; bytes = d }))
same_count a b c d e f = λ i. Some (record { packets = e i; bytes = f i })

-- a count that a machine word can hold
abbrev pub Fits : Count → Type 0
Fits c = (c.packets ≤ 2 ^ 64 - 1) × (c.bytes ≤ 2 ^ 64 - 1)

abbrev pub packets_of : List Hit → ℕ
packets_of = sum_by (λ k. k.count.packets)

abbrev pub bytes_of : List Hit → ℕ
bytes_of = sum_by (λ k. k.count.bytes)

sum_push : (hits : List Hit) (h : Hit) → Fits h.count → sum_of (hits ++ h ∷ []) ≡ Some (plus (sum_of hits) h.count)
sum_push [] h small =
    same_count (counted (0 + h.count.packets)) (counted (0 + h.count.bytes)) h.count.packets h.count.bytes
    (omega (arith, small.0)) (omega (arith, small.1))
sum_push (x ∷ xs) h small =
    let packets = sum_by_push (λ (k : Hit). k.count.packets) (x ∷ xs) h in
    let bytes = sum_by_push (λ (k : Hit). k.count.bytes) (x ∷ xs) h in
    same_count (counted (packets_of ((x ∷ xs) ++ h ∷ []))) (counted (bytes_of ((x ∷ xs) ++ h ∷ [])))
    (counted (counted (packets_of (x ∷ xs)) + h.count.packets)) (counted (counted (bytes_of (x ∷ xs)) + h.count.bytes))
    (omega (arith, packets)) (omega (arith, bytes))

pub hits_more : (hits : List Hit) (h : Hit) (old new : List ℕ → Option Count) → Fits h.count → CountHits hits old
    → AddsHit h old new → CountHits (hits ++ h ∷ []) new
hits_more hits h old new small so_far more q = more q ∙ is (bytes_eq h.key q) refl
  where
    is : (b : Bool) → bytes_eq h.key q ≡ b → (if b then Some (plus (old q) h.count) else old q)
        ≡ count_of (hits ++ h ∷ []) q
    is true e =
        ap (λ o. Some (plus o h.count)) (so_far q) ∙ sym (sum_push (filter (λ k. bytes_eq k.key q) hits) h small)
        ∙ sym
        (ap sum_of
        (filter-append (λ (k : Hit). bytes_eq k.key q) hits (h ∷ [])
        ∙ ap (λ (b : Bool). filter (λ (k : Hit). bytes_eq k.key q) hits ++ (if b then h ∷ [] else [])) e))
    is false e =
        so_far q
        ∙ sym
        (ap sum_of
        (filter-append (λ (k : Hit). bytes_eq k.key q) hits (h ∷ [])
        ∙ ap (λ (b : Bool). filter (λ (k : Hit). bytes_eq k.key q) hits ++ (if b then h ∷ [] else [])) e
        ∙ append-nil (filter (λ (k : Hit). bytes_eq k.key q) hits)))
