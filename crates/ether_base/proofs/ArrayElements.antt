-- Lists by their elements: an array that a body writes out, and numbers of two bytes.
use Rattle.std.proofs.Common.{◌≡◌, ℕ, zero, suc, ◌+◌, ◌-◌, ◌*◌, ◌<◌, ◌≤◌, List, [], ◌∷◌, length, take, drop, get_or, sym, ap, ◌∙◌, arith, add-one, drop-cons}
use Rattle.std.specs.Prelude.{slice_range}
use Rattle.ether_base.specs.Bytes.{number}
use Rattle.ether_base.proofs.SubLists.{part_all}

-- k elements from place i on, one by one
abbrev pub cells : ℕ → ℕ → List ℕ → List ℕ
cells i zero list = []
cells i (suc k) list = get_or list i 0 ∷ cells (i + 1) k list

pub cells-is : (i k : ℕ) (list : List ℕ) → i + k ≤ length list → cells i k list ≡ slice_range list i (i + k)
cells-is i zero list le = let e : i + 0 - i ≡ 0 = omega arith in ap (λ (n : ℕ). take n (drop i list)) (sym e)
cells-is i (suc k) list le =
    let here : i < length list = omega arith in
    let n : i + suc k - i ≡ suc k = omega arith in
    let m : i + 1 + k - (i + 1) ≡ k = omega arith in
    let rest = cells-is (i + 1) k list (omega arith) ∙ ap (λ (j : ℕ). take j (drop (i + 1) list)) m in
    let split = drop-cons list i 0 here in
    ap (λ (l : List ℕ). get_or list i 0 ∷ l) (rest ∙ ap (λ (j : ℕ). take k (drop j list)) (add-one i))
    ∙ ap (take (suc k)) (sym split)
    ∙ ap (λ (j : ℕ). take j (drop i list)) (sym n)

-- an array is its elements
pub cells-all : (k : ℕ) (list : List ℕ) → length list ≡ k → cells 0 k list ≡ list
cells-all k list len =
    cells-is 0 k list (omega arith) ∙ ap (slice_range list 0) (omega arith) ∙ part_all list k (omega arith)

-- two bytes, the first of them the higher one
pub number-two : (i : ℕ) (list : List ℕ) → i + 2 ≤ length list
    → number (slice_range list i (i + 2)) ≡ get_or list i 0 * 256 + get_or list (i + 1) 0
number-two i list le = ap number (sym (cells-is i 2 list le)) ∙ omega arith
