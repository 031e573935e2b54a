-- What is left of a division by the generator.
use Rattle.std.proofs.Common.{◌≡◌, ℕ, zero, suc, ◌+◌, ◌-◌, ◌≤◌, List, [], ◌∷◌, ◌++◌, length, replicate, Bool, true, false, refl, sym, ap, ◌∙◌, arith}
use Rattle.ether_make.specs.CheckSequences.{added, divided, generator}
use Rattle.ether_make.specs.Divisions.{IsMultiple, RemaindersAreLeft, none, more}
use Rattle.ether_make.proofs.CheckLemmas.{added-assoc, length-added, length-divided, length-generator}

length-zeros : (n : ℕ) → length (replicate n false) ≡ n
length-zeros zero = refl
length-zeros (suc n) = ap suc (length-zeros n)

-- zeros before a sum
zeros-added : (p : List Bool) (n : ℕ) → length p ≡ n → added (replicate n false) p ≡ p
zeros-added [] zero e = refl
zeros-added [] (suc n) e = absurd (omega (arith, e))
zeros-added (a ∷ p) zero e = absurd (omega (arith, e))
zeros-added (true ∷ p) (suc n) e = ap (λ l. true ∷ l) (zeros-added p n (omega (arith, e)))
zeros-added (false ∷ p) (suc n) e = ap (λ l. false ∷ l) (zeros-added p n (omega (arith, e)))

-- a sum with itself is gone
twice : (g p : List Bool) → length g ≤ length p → added g (added g p) ≡ p
twice [] p h = refl
twice (a ∷ g) [] h = absurd (omega (arith, h))
twice (true ∷ g) (true ∷ p) h = ap (λ l. true ∷ l) (twice g p (omega (arith, h)))
twice (true ∷ g) (false ∷ p) h = ap (λ l. false ∷ l) (twice g p (omega (arith, h)))
twice (false ∷ g) (b ∷ p) h = ap (λ l. b ∷ l) (twice g p (omega (arith, h)))

later : (p : List Bool) → IsMultiple p → IsMultiple (false ∷ p)
later p (none n) = none (suc n)
later p (more i q h m) = more (suc i) (false ∷ q) (omega (arith, h)) (later q m)

-- the parts of a sum
record Splits (n : ℕ) (p : List Bool) : Type 0 where
  multiple : List Bool
  is_multiple : IsMultiple multiple
  len : length multiple ≡ length p
  sum : p ≡ added multiple (replicate n false ++ divided n p)

divided-false : (n : ℕ) (p : List Bool) → divided (suc n) (false ∷ p) ≡ divided n p
unfolding divided
divided-false n p = refl

divided-true : (n : ℕ) (p : List Bool) → divided (suc n) (true ∷ p) ≡ divided n (added generator p)
unfolding divided
divided-true n p = refl

divided-none : (p : List Bool) → divided zero p ≡ p
unfolding divided
divided-none p = refl

splits : (n : ℕ) (p : List Bool) → n + 32 ≤ length p → Splits n p
splits zero p h = record {
  multiple = replicate (length p) false;
  is_multiple = none (length p);
  len = length-zeros (length p);
  sum = sym (ap (added (replicate (length p) false)) (divided-none p) ∙ zeros-added p (length p) refl);
}
splits (suc n) [] h = absurd (omega (arith, h))
splits (suc n) (false ∷ p) h =
    let s = splits n p (omega (arith, h)) in
    record {
      multiple = false ∷ s.multiple;
      is_multiple = later s.multiple s.is_multiple;
      len = ap suc s.len;
      sum = ap (λ l. false ∷ l) s.sum
          ∙ ap (λ r. false ∷ added s.multiple (replicate n false ++ r)) (sym (divided-false n p));
    }
splits (suc n) (true ∷ p) h =
    let enough : length generator ≤ length p = omega (arith, h, length-generator) in
    let same : length (added generator p) ≡ length p = length-added generator p enough in
    let s = splits n (added generator p) (omega (arith, h, same)) in
    let rest = replicate n false ++ divided n (added generator p) in
    let back : p ≡ added (added generator s.multiple) rest =
    sym (twice generator p enough) ∙ ap (added generator) s.sum ∙ sym (added-assoc generator s.multiple rest) in
    record {
      multiple = added (true ∷ generator) (false ∷ s.multiple);
      is_multiple = more 0 (false ∷ s.multiple) (omega (arith, h, same, s.len)) (later s.multiple s.is_multiple);
      len = ap suc (length-added generator s.multiple (omega (arith, enough, same, s.len)) ∙ s.len ∙ same);
      sum = ap (λ l. true ∷ l) back
          ∙ ap (λ r. true ∷ added (added generator s.multiple) (replicate n false ++ r)) (sym (divided-true n p));
    }

pub remainders : RemaindersAreLeft
remainders p h =
    let s = splits (length p - 32) p (omega (arith, h)) in
    let left : length p - (length p - 32) ≡ 32 = omega (arith, h) in
    let len = length-divided (length p - 32) p (omega (arith, h)) ∙ left in
    (len, record { multiple = s.multiple; is_multiple = s.is_multiple; len = s.len; sum = s.sum })
