-- Texts that are cut at a byte, and the fields of lines.
use Rattle.std.proofs.Common.{◌≡◌, ℕ, suc, ◌+◌, ◌*◌, ◌-◌, ◌<◌, List, take, take_all, slice_index_or, [], ◌∷◌, ◌++◌, length, Bool, true, false, refl, sym, ap, ◌∙◌, arith, append_assoc, append-nil}
use Rattle.std.specs.Prelude.{◌==◌, if◌then◌else◌}
use Rattle.std.specs.List.{All}
use Rattle.std.proofs.Math.Seq.{take-suc}
use Rattle.ether_stream.specs.Packets.{counted}
use Rattle.ether_capture.specs.RowFields.{decimal_value, row_fields, keys_in, last_piece, pieces}
use Rattle.ether_format.specs.Splits.{SplitsAt}

tail_none : (k b : ℕ) (bs : List ℕ) → All (λ c. (c == k) ≡ false) (b ∷ bs) → All (λ c. (c == k) ≡ false) bs
tail_none k b bs none = λ j d lt. none (suc j) d (omega (arith, lt))

-- no byte ends a piece
pub pieces_none : (k : ℕ) (before xs : List ℕ) → All (λ b. (b == k) ≡ false) xs → pieces k before xs ≡ []
pieces_none k before [] none = refl
pieces_none k before (b ∷ bs) none =
    rw (none 0 0 (omega arith)) (pieces_none k (before ++ b ∷ []) bs (tail_none k b bs none))

pub last_none : (k : ℕ) (before xs : List ℕ) → All (λ b. (b == k) ≡ false) xs → last_piece k before xs ≡ before ++ xs
last_none k before [] none = sym (append-nil before)
last_none k before (b ∷ bs) none =
    rw (none 0 0 (omega arith))
    (last_none k (before ++ b ∷ []) bs (tail_none k b bs none) ∙ append_assoc before (b ∷ []) bs)

-- .. of a text and then another
pub pieces_after : (k : ℕ) (before xs ys : List ℕ)
    → pieces k before (xs ++ ys) ≡ pieces k before xs ++ pieces k (last_piece k before xs) ys
pieces_after k before [] ys = refl
pieces_after k before (b ∷ bs) ys =
    by (b == k) (pieces_after k [] bs ys) (pieces_after k (before ++ b ∷ []) bs ys)
  where
    by : (c : Bool)
        → pieces k [] (bs ++ ys) ≡ pieces k [] bs ++ pieces k (last_piece k [] bs) ys
        → pieces k (before ++ b ∷ []) (bs ++ ys) ≡ pieces k (before ++ b ∷ []) bs
        ++ pieces k (last_piece k (before ++ b ∷ []) bs) ys
        → (if c then before ∷ pieces k [] (bs ++ ys) else pieces k (before ++ b ∷ []) (bs ++ ys))
        ≡ (if c then before ∷ pieces k [] bs else pieces k (before ++ b ∷ []) bs)
        ++ pieces k (if c then last_piece k [] bs else last_piece k (before ++ b ∷ []) bs) ys
    by true e f = ap (λ l. before ∷ l) e
    by false e f = f

pub last_after : (k : ℕ) (before xs ys : List ℕ)
    → last_piece k before (xs ++ ys) ≡ last_piece k (last_piece k before xs) ys
last_after k before [] ys = refl
last_after k before (b ∷ bs) ys = by (b == k) (last_after k [] bs ys) (last_after k (before ++ b ∷ []) bs ys)
  where
    by : (c : Bool)
        → last_piece k [] (bs ++ ys) ≡ last_piece k (last_piece k [] bs) ys
        → last_piece k (before ++ b ∷ []) (bs ++ ys) ≡ last_piece k (last_piece k (before ++ b ∷ []) bs) ys
        → (if c then last_piece k [] (bs ++ ys) else last_piece k (before ++ b ∷ []) (bs ++ ys))
        ≡ last_piece k (if c then last_piece k [] bs else last_piece k (before ++ b ∷ []) bs) ys
    by true e f = e
    by false e f = f

-- ---- fields

pub one_field : (text : List ℕ) → All (λ b. (b == 9) ≡ false) text → row_fields text ≡ text ∷ []
one_field text none = λ i. pieces_none 9 [] text none i ++ (last_none 9 [] text none i ∷ [])

pub next_field : (text field after : List ℕ) → SplitsAt 9 text field after → row_fields text ≡ field ∷ row_fields after
next_field text field after is =
    let front = pieces_after 9 [] field (9 ∷ after) in
    let last = last_after 9 [] field (9 ∷ after) in
    let none = pieces_none 9 [] field is.none_before in
    let field_is = last_none 9 [] field is.none_before in
    ap row_fields is.parts
    ∙ (λ i. front i ++ (last i ∷ []))
    ∙ (λ i. (none i ++ (field_is i ∷ pieces 9 [] after)) ++ (last_piece 9 [] after ∷ []))

-- ---- numbers

pub decimal_more : (before : ℕ) (ds : List ℕ) (d : ℕ)
    → decimal_value before (ds ++ d ∷ []) ≡ decimal_value before ds * 10 + (d - 48)
decimal_more before [] d = refl
decimal_more before (x ∷ xs) d = decimal_more (before * 10 + (x - 48)) xs d

pub decimal_last : (ds : List ℕ) (i : ℕ) → length ds ≡ i + 1
    → decimal_value 0 ds ≡ decimal_value 0 (take i ds) * 10 + (slice_index_or ds i 0 - 48)
decimal_last ds i is =
    let whole : ds ≡ take (suc i) ds = sym (take_all (suc i) ds (omega (arith, is))) in
    ap (decimal_value 0) (whole ∙ take-suc ds i 0 (omega (arith, is)))
    ∙ decimal_more 0 (take i ds) (slice_index_or ds i 0)

pub decimal_turn : (ds : List ℕ) (i value : ℕ) → i < length ds → value ≡ counted (decimal_value 0 (take i ds))
    → counted (counted (value * 10) + (slice_index_or ds i 0 - 48)) ≡ counted (decimal_value 0 (take (i + 1) ds))
decimal_turn ds i value lt so_far =
    let one : i + 1 ≡ suc i = omega arith in
    let more : decimal_value 0 (take (i + 1) ds) ≡ decimal_value 0 (take i ds) * 10 + (slice_index_or ds i 0 - 48) =
    ap (λ n. decimal_value 0 (take n ds)) one ∙ ap (decimal_value 0) (take-suc ds i 0 lt)
    ∙ decimal_more 0 (take i ds) (slice_index_or ds i 0) in
    omega (arith, more, so_far)

-- ---- keys

pub no_keys : (columns : List (List ℕ)) → keys_in columns [] ≡ []
no_keys [] = refl
no_keys (c ∷ cs) = refl
