-- Texts without a byte.
use Rattle.std.proofs.Common.{◌≡◌, ℕ, List, [], ◌∷◌, ◌++◌, Bool, true, false, Some, refl, subst}
use Rattle.std.specs.Prelude.{◌==◌, filter, if◌then◌else◌}
use Rattle.std.specs.List.{All, AllByRecursion, flat_map}
use Rattle.std.specs.Str.{bytes_eq}
use Rattle.std.specs.Cmp.Lexicographic.{bytes_decides}
use Rattle.std.proofs.lemmas.List.Elements.{All-cons, All-nil}
use Rattle.ether_capture.specs.declared.count.Count.{Count}
use Rattle.ether_capture.specs.KeyCounts.{Hit, count_of, sum_of}
use Rattle.ether_capture.specs.RowFields.{after_first, are_empty, fields_bytes, hits_under, joined, key_text, keys_in, last_piece, lines_hits, pieces, row_fields, row_hits, row_keys}

-- a byte is nowhere in a text
abbrev pub Lacks : (k : ℕ) → List ℕ → Type 0
Lacks k = AllByRecursion (λ b. (b == k) ≡ false)

pub lacks_all : (k : ℕ) (bs : List ℕ) → Lacks k bs → All (λ b. (b == k) ≡ false) bs
lacks_all k [] lacks = All-nil (λ b. (b == k) ≡ false)
lacks_all k (b ∷ bs) lacks = All-cons (λ c. (c == k) ≡ false) b bs lacks.0 (lacks_all k bs lacks.1)

pub both : {X : Type 0} (P : X → Type 0) (xs ys : List X) → AllByRecursion P xs → AllByRecursion P ys
    → AllByRecursion P (xs ++ ys)
both P [] ys l m = m
both P (x ∷ xs) ys l m = (l.0, both P xs ys l.1 m)

-- .. nor in its pieces
pub pieces_lack : (k : ℕ) (before xs : List ℕ) → Lacks k before → AllByRecursion (Lacks k) (pieces k before xs)
pieces_lack k before [] l = tt
pieces_lack k before (b ∷ bs) l =
    by (b == k) refl (pieces_lack k [] bs tt)
    (λ e. pieces_lack k (before ++ b ∷ []) bs (both (λ c. (c == k) ≡ false) before (b ∷ []) l (e, tt)))
  where
    by : (c : Bool) → (b == k) ≡ c → AllByRecursion (Lacks k) (pieces k [] bs)
        → ((b == k) ≡ false → AllByRecursion (Lacks k) (pieces k (before ++ b ∷ []) bs))
        → AllByRecursion (Lacks k) (if c then before ∷ pieces k [] bs else pieces k (before ++ b ∷ []) bs)
    by true e new on = (l, new)
    by false e new on = on e

fields_lack : (k m : ℕ) (before xs : List ℕ) → Lacks k before → Lacks k xs
    → AllByRecursion (Lacks k) (pieces m before xs ++ last_piece m before xs ∷ [])
fields_lack k m before [] l n = (l, tt)
fields_lack k m before (b ∷ bs) l n =
    by (b == m) (fields_lack k m [] bs tt n.1)
    (fields_lack k m (before ++ b ∷ []) bs (both (λ c. (c == k) ≡ false) before (b ∷ []) l (n.0, tt)) n.1)
  where
    by : (c : Bool) → AllByRecursion (Lacks k) (pieces m [] bs ++ last_piece m [] bs ∷ [])
        → AllByRecursion (Lacks k) (pieces m (before ++ b ∷ []) bs ++ last_piece m (before ++ b ∷ []) bs ∷ [])
        → AllByRecursion (Lacks k)
        ((if c then before ∷ pieces m [] bs else pieces m (before ++ b ∷ []) bs)
        ++ (if c then last_piece m [] bs else last_piece m (before ++ b ∷ []) bs) ∷ [])
    by true new on = (l, new)
    by false new on = on

-- ---- keys without a line feed

after_lack : (fs : List (List ℕ)) → AllByRecursion (Lacks 10) fs → AllByRecursion (Lacks 10) (after_first fs)
after_lack [] l = tt
after_lack (f ∷ fs) l = l.1

key_lacks : (column text : List ℕ) → Lacks 10 column → Lacks 10 text → Lacks 10 (key_text column text)
key_lacks column text l m = both (λ b. (b == 10) ≡ false) column (9 ∷ text) l (refl, m)

joined_lack : (fs : List (List ℕ)) → AllByRecursion (Lacks 10) fs → Lacks 10 (joined fs)
joined_lack [] l = tt
joined_lack (f ∷ fs) l = both (λ b. (b == 10) ≡ false) f (flat_map (λ g. 9 ∷ g) fs) l.0 (after fs l.1)
  where
    after : (gs : List (List ℕ)) → AllByRecursion (Lacks 10) gs → Lacks 10 (flat_map (λ g. 9 ∷ g) gs)
    after [] m = tt
    after (g ∷ gs) m = (refl, both (λ b. (b == 10) ≡ false) g (flat_map (λ h. 9 ∷ h) gs) m.0 (after gs m.1))

keys_lack : (columns fields : List (List ℕ)) → AllByRecursion (Lacks 10) columns → AllByRecursion (Lacks 10) fields
    → AllByRecursion (Lacks 10) (keys_in columns fields)
keys_lack [] fields l m = tt
keys_lack (c ∷ cs) [] l m = tt
keys_lack (c ∷ cs) ([] ∷ fs) l m = keys_lack cs fs l.1 m.1
keys_lack (c ∷ cs) ((b ∷ bs) ∷ fs) l m = (key_lacks c (b ∷ bs) l.0 m.0, keys_lack cs fs l.1 m.1)

row_keys_lack : (joint : Bool) (columns fields : List (List ℕ)) → AllByRecursion (Lacks 10) columns
    → AllByRecursion (Lacks 10) fields → AllByRecursion (Lacks 10) (row_keys joint columns fields)
row_keys_lack false columns fields l m = keys_lack columns fields l m
row_keys_lack true columns fields l m = by (are_empty fields)
  where
    by : (b : Bool) → AllByRecursion (Lacks 10) (if b then [] else key_text (joined columns) (joined fields) ∷ [])
    by true = tt
    by false = (key_lacks (joined columns) (joined fields) (joined_lack columns l) (joined_lack fields m), tt)

-- the keys of packets
abbrev pub KeysLack : List Hit → Type 0
KeysLack = AllByRecursion (λ h. Lacks 10 h.key)

hits_lack : (bytes : ℕ) (keys : List (List ℕ)) → AllByRecursion (Lacks 10) keys → KeysLack (hits_under bytes keys)
hits_lack bytes [] l = tt
hits_lack bytes (k ∷ ks) l = (l.0, hits_lack bytes ks l.1)

row_lacks : (joint : Bool) (heading row : List ℕ) → Lacks 10 heading → Lacks 10 row
    → KeysLack (row_hits joint heading row)
row_lacks joint heading row l m =
    let columns = after_lack (row_fields heading) (fields_lack 10 9 [] heading tt l) in
    let fields = after_lack (row_fields row) (fields_lack 10 9 [] row tt m) in
    hits_lack (fields_bytes (row_fields row)) _
    (row_keys_lack joint (after_first (row_fields heading)) (after_first (row_fields row)) columns fields)

pub lines_lack : (joint : Bool) (lines : List (List ℕ)) → AllByRecursion (Lacks 10) lines
    → KeysLack (lines_hits joint lines)
lines_lack joint [] l = tt
lines_lack joint (heading ∷ rows) l = each rows l.1
  where
    each : (rs : List (List ℕ)) → AllByRecursion (Lacks 10) rs → KeysLack (flat_map (row_hits joint heading) rs)
    each [] m = tt
    each (r ∷ rs) m =
        both (λ h. Lacks 10 h.key) (row_hits joint heading r) (flat_map (row_hits joint heading) rs)
        (row_lacks joint heading r l.0 m.0) (each rs m.1)

pub counted_lacks : (hits : List Hit) → KeysLack hits → (q : List ℕ) (c : Count) → count_of hits q ≡ Some c → Lacks 10 q
counted_lacks [] all q c e = absurd cc
counted_lacks (h ∷ hs) all q c e = by (bytes_eq h.key q) refl e (counted_lacks hs all.1 q c)
  where
    rest : List Hit
    rest = filter (λ k. bytes_eq k.key q) hs

    by : (b : Bool) → bytes_eq h.key q ≡ b → sum_of (if b then h ∷ rest else rest) ≡ Some c
        → (sum_of rest ≡ Some c → Lacks 10 q) → Lacks 10 q
    by true is some later = subst (Lacks 10) ((bytes_decides h.key q).0 is) all.0
    by false is some later = later some
