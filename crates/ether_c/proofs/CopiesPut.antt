-- Bytes that are written to a target piece by piece.
use Rattle.std.proofs.Common.{◌≡◌, ℕ, suc, zero, ◌+◌, ◌≤◌, List, [], ◌∷◌, ◌++◌, length, take, drop, length-append, refl, sym, ap, ◌∙◌, arith}
use Rattle.std.proofs.lemmas.List.{take_at}
use Rattle.std.proofs.lemmas.Slice.{drop-append-drop}
use Rattle.ether_pcap.specs.Writing.{zeros}
use Rattle.ether_c.specs.Numbers.{done}
use Rattle.ether_c.specs.Calls.{PutsBytes}

-- A target holds bytes up to an offset, and then what it held before.
pub record HoldsUpTo (old bytes new : List ℕ) (at : ℕ) : Type 0 where
  pub len : length bytes ≡ at
  pub is : new ≡ bytes ++ drop at old

pub holds_none : (old : List ℕ) → HoldsUpTo old [] old 0
holds_none old = record { len = refl; is = refl }

-- the next piece follows them
pub holds_more : (old before bytes mid new : List ℕ) (at end : ℕ) → HoldsUpTo old before mid at
    → end ≡ at + length bytes → new ≡ take at mid ++ bytes ++ drop (at + length bytes) mid
    → HoldsUpTo old (before ++ bytes) new end
holds_more old before bytes mid new at end held is put = record {
  len = let a = length-append before bytes in let b = held.len in omega arith;
  is = put ∙ ap (λ (l : List ℕ). take at l ++ bytes ++ drop (at + length bytes) l) held.is
      ∙ (λ i. take_at before (drop at old) at held.len i ++ bytes
      ++ drop-append-drop at old before (at + length bytes) (omega arith) held.len i)
      ∙ ap (λ (n : ℕ). before ++ bytes ++ drop n old) (sym is);
}

pub holds_all : (old bytes new : List ℕ) (at len : ℕ) → HoldsUpTo old bytes new at → len ≡ at → at ≤ length old
    → PutsBytes bytes old new done len
holds_all old bytes new at len held is room = record {
  len_is = is ∙ sym held.len;
  put = λ _. (refl, held.is ∙ ap (λ (n : ℕ). bytes ++ drop n old) (sym held.len));
  kept = λ lt. let l = held.len in absurd (omega arith);
}

pub zeros_in : (n : ℕ) → n ≤ 3 → take n (0 ∷ 0 ∷ 0 ∷ []) ≡ zeros n
zeros_in zero le = refl
zeros_in (suc zero) le = refl
zeros_in (suc (suc zero)) le = refl
zeros_in (suc (suc (suc zero))) le = refl
zeros_in (suc (suc (suc (suc n)))) le = absurd (omega arith)
