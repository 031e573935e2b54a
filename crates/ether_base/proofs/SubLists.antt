-- Parts of lists of bytes, and their numbers.
use Rattle.std.proofs.Common.{◌≡◌, ℕ, ◌+◌, ◌-◌, ◌*◌, ◌^◌, ◌<◌, ◌≤◌, List, ◌++◌, length, take, drop, min, refl, sym, ap, subst, ◌∙◌, arith, inl, inr}
use Rattle.std.specs.Prelude.{slice_range, slice_index}
use Rattle.std.proofs.lemmas.Bool.{cases_lt}
use Rattle.std.proofs.lemmas.List.{append_assoc, drop_at, take_at, length-take, length-drop, take-append-le, drop-append-le, drop-drop, drop-take, take-take, get_or-drop, get_or-take, get_or_past, take_all, take-append-drop}
use Rattle.ether_base.specs.Bytes.{IsBytes, number}
use Rattle.ether_base.proofs.Numbers.{IsBytes-append, number-append, number_below}

pub length-part : (list : List ℕ) (i j : ℕ) → j ≤ length list → length (slice_range list i j) ≡ j - i
length-part list i j le = simp (length-take, length-drop) (omega arith)

pub length-part_min : (list : List ℕ) (i j : ℕ) → length (slice_range list i j) ≤ j - i
length-part_min list i j = simp (length-take, length-drop) (omega arith)

-- a part that ends within the front
pub part-append : (front more : List ℕ) (i j : ℕ) → i ≤ j → j ≤ length front
    → slice_range (front ++ more) i j ≡ slice_range front i j
part-append front more i j ij le =
    let a : drop i (front ++ more) ≡ drop i front ++ more = drop-append-le i front more (omega arith) in
    ap (take (j - i)) a ∙ take-append-le (j - i) (drop i front) more (omega (arith, length-drop i front))

-- a part of a part
pub part_of_part : (list : List ℕ) (s f i j : ℕ) → i ≤ j → s + j ≤ f
    → slice_range (slice_range list s f) i j ≡ slice_range list (s + i) (s + j)
part_of_part list s f i j ij le =
    let m = f - s - i in
    let split : f - s ≡ i + m = omega arith in
    let a : drop i (take (f - s) (drop s list)) ≡ take m (drop i (drop s list)) =
    ap (λ (n : ℕ). drop i (take n (drop s list))) split ∙ drop-take i m (drop s list) in
    let b : drop i (drop s list) ≡ drop (s + i) list = drop-drop i s list in
    let c : take (j - i) (take m (drop (s + i) list)) ≡ take (j - i) (drop (s + i) list) =
    take-take (j - i) m (drop (s + i) list) (omega arith) in
    let d : j - i ≡ s + j - (s + i) = omega arith in
    ap (take (j - i)) (a ∙ ap (take m) b) ∙ c ∙ ap (λ (n : ℕ). take n (drop (s + i) list)) d

-- a part of a front
pub part_of_front : (list : List ℕ) (n i j : ℕ) → i ≤ j → j ≤ n
    → slice_range (slice_range list 0 n) i j ≡ slice_range list i j
part_of_front list n i j ij le =
    let first : 0 + i ≡ i = omega arith in
    let last : 0 + j ≡ j = omega arith in
    part_of_part list 0 n i j ij (omega arith) ∙ ap (λ (k : ℕ). slice_range list k (0 + j)) first
    ∙ ap (slice_range list i) last

-- the rest of a part
pub rest_of_part : (list : List ℕ) (s f i : ℕ) → s + i ≤ f → drop i (slice_range list s f) ≡ slice_range list (s + i) f
rest_of_part list s f i le =
    let m = f - s - i in
    let split : f - s ≡ i + m = omega arith in
    let d : m ≡ f - (s + i) = omega arith in
    ap (λ (n : ℕ). drop i (take n (drop s list))) split ∙ drop-take i m (drop s list) ∙ ap (take m) (drop-drop i s list)
    ∙ ap (λ (n : ℕ). take n (drop (s + i) list)) d

pub part_all : (list : List ℕ) (n : ℕ) → length list ≤ n → slice_range list 0 n ≡ list
part_all list n le = let e : n - 0 ≡ n = omega arith in rw e (take_all n list le)

pub IsBytes-take : (n : ℕ) (bytes : List ℕ) → IsBytes bytes → IsBytes (take n bytes)
IsBytes-take n bytes h i =
    elim (cases_lt i n) [
      | inl lt ↦ rw (get_or-take n bytes i 0 lt) (h i)
      | inr le ↦ rw (get_or_past (take n bytes) i 0 (omega (arith, length-take n bytes))) (omega arith)
    ]

pub IsBytes-drop : (n : ℕ) (bytes : List ℕ) → IsBytes bytes → IsBytes (drop n bytes)
IsBytes-drop n bytes h i = rw get_or-drop (h (n + i))

pub IsBytes-part : (i j : ℕ) (bytes : List ℕ) → IsBytes bytes → IsBytes (slice_range bytes i j)
IsBytes-part i j bytes h = IsBytes-take (j - i) (drop i bytes) (IsBytes-drop i bytes h)

-- two parts that meet
pub part_join : (list : List ℕ) (i j k : ℕ) → i ≤ j → j ≤ k
    → slice_range list i j ++ slice_range list j k ≡ slice_range list i k
part_join list i j k ij jk =
    let x = slice_range list i k in
    let a : take (j - i) x ≡ slice_range list i j = take-take (j - i) (k - i) (drop i list) (omega arith) in
    let b : drop (j - i) x ≡ slice_range list (i + (j - i)) k = rest_of_part list i k (j - i) (omega arith) in
    let c : i + (j - i) ≡ j = omega arith in
    let d : drop (j - i) x ≡ slice_range list j k = b ∙ ap (λ (n : ℕ). slice_range list n k) c in
    ap (λ (l : List ℕ). l ++ slice_range list j k) (sym a) ∙ ap (λ (l : List ℕ). take (j - i) x ++ l) (sym d)
    ∙ take-append-drop (j - i) x

pub length-part-is : (list : List ℕ) (i j : ℕ) → length (slice_range list i j) ≡ min (j - i) (length list - i)
length-part-is list i j = simp (length-take, length-drop) refl

-- a part between two others
pub part_after_front : (front part more : List ℕ) (i j : ℕ) → length front ≡ i → i + length part ≡ j
    → slice_range (front ++ part ++ more) i j ≡ part
part_after_front front part more i j len long =
    let n : j - i ≡ length part = omega arith in
    ap (λ (l : List ℕ). take (j - i) (drop i l)) (append_assoc front part more)
    ∙ ap (take (j - i)) (drop_at front (part ++ more) i len) ∙ ap (λ (k : ℕ). take k (part ++ more)) n
    ∙ take_at part more (length part) refl

-- bytes in two parts that meet
pub IsBytes-join : (list : List ℕ) (i j k : ℕ) → i ≤ j → j ≤ k → IsBytes (slice_range list i j)
    → IsBytes (slice_range list j k) → IsBytes (slice_range list i k)
IsBytes-join list i j k ij jk a b =
    subst IsBytes (part_join list i j k ij jk) (IsBytes-append (slice_range list i j) (slice_range list j k) a b)

-- ---- numbers

-- a part that is there has a number of its length
pub number-part_below : (bytes : List ℕ) (i j : ℕ) → IsBytes bytes → j ≤ length bytes
    → number (slice_range bytes i j) < 256 ^ (j - i)
number-part_below bytes i j ok le =
    rw (length-part bytes i j le) at (number_below (slice_range bytes i j) (IsBytes-part i j bytes ok))

-- two parts that meet
pub number-part_join : (bytes : List ℕ) (i j k : ℕ) → i ≤ j → j ≤ k → k ≤ length bytes
    → number (slice_range bytes i k) ≡ number (slice_range bytes i j) * 256 ^ (k - j) + number (slice_range bytes j k)
number-part_join bytes i j k ij jk le =
    ap number (sym (part_join bytes i j k ij jk)) ∙ number-append (slice_range bytes i j) (slice_range bytes j k)
    ∙ ap (λ (n : ℕ). number (slice_range bytes i j) * 256 ^ n + number (slice_range bytes j k))
    (length-part bytes j k le)

-- an element of a list's front is the list's
pub index_of_front : (list : List ℕ) (n i : ℕ) → i < n → slice_index (slice_range list 0 n) i ≡ slice_index list i
index_of_front list n i lt =
    let e : n - 0 ≡ n = omega arith in ap (λ (k : ℕ). slice_index (take k list) i) e ∙ get_or-take n list i 0 lt
