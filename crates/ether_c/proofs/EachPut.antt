-- An array that gets a value for each item of a list, from its front on.
use Rattle.std.proofs.Common.{◌≡◌, ℕ, suc, ◌+◌, ◌≤◌, ◌<◌, List, [], ◌∷◌, ◌++◌, length, drop, set, take, refl, sym, ap, subst, ◌∙◌, arith, rules}
use Rattle.std.specs.Prelude.{slice_index_or}
use Rattle.std.proofs.Math.Seq.{take-suc}
use Rattle.std.proofs.lemmas.List.{append_assoc, length-drop, length-take-le, drop-drop, take_all}
use Rattle.ether_c.specs.Puts.{AllMatched, PutsEach}
use Rattle.ether_c.specs.Numbers.{done}
use Rattle.ether_c.proofs.UnitsGiven.{put_at}

pub fit-append : {A B : Type 0} (Fits : A → B → Type 0) (items : List A) (values : List B) (a : A) (b : B)
    → AllMatched Fits items values → Fits a b → AllMatched Fits (items ++ a ∷ []) (values ++ b ∷ [])
fit-append Fits [] [] a b are is = (is, tt)
fit-append Fits [] (v ∷ vs) a b are is = absurd are
fit-append Fits (c ∷ cs) [] a b are is = absurd are
fit-append Fits (c ∷ cs) (v ∷ vs) a b are is = (are.0, fit-append Fits cs vs a b are.1 is)

pub fit-length : {A B : Type 0} (Fits : A → B → Type 0) (items : List A) (values : List B)
    → AllMatched Fits items values → length items ≡ length values
fit-length Fits [] [] are = refl
fit-length Fits [] (v ∷ vs) are = absurd are
fit-length Fits (c ∷ cs) [] are = absurd are
fit-length Fits (c ∷ cs) (v ∷ vs) are = ap suc (fit-length Fits cs vs are.1)

-- after so many items
pub record PutSoFar {A B : Type 0} (Fits : A → B → Type 0) (items : List A) (old new : List B) (at : ℕ) : Type 0 where
  pub values : List B
  pub are : AllMatched Fits (take at items) values
  pub held : new ≡ values ++ drop at old

pub put_next_value : {A B : Type 0} (Fits : A → B → Type 0) (items : List A) (old mid new : List B) (at : ℕ) (b : B)
    (d : A) → at < length items → length items ≤ length old → PutSoFar Fits items old mid at
    → Fits (slice_index_or items at d) b → new ≡ set mid at b → PutSoFar Fits items old new (at + 1)
put_next_value {A} {B} Fits items old mid new at b d lt room a is put =
    let c = slice_index_or items at d in
    let more : at + 1 ≡ suc at = omega arith in
    let front : take (at + 1) items ≡ take at items ++ c ∷ [] = ap (λ (k : ℕ). take k items) more
    ∙ take-suc items at d lt in
    let counted : length a.values ≡ at = sym (fit-length Fits (take at items) a.values a.are)
    ∙ length-take-le at items (omega arith) in
    let left : 0 < length (drop at old) = let e = length-drop at old in omega arith in
    record {
      values = a.values ++ b ∷ [];
      are = subst (λ (l : List A). AllMatched Fits l (a.values ++ b ∷ [])) (sym front)
          (fit-append Fits (take at items) a.values c b a.are is);
      held = put ∙ (λ i. set (a.held i) (sym counted i) b) ∙ put_at a.values (drop at old) b left
          ∙ ap (λ (l : List B). a.values ++ b ∷ l) (drop-drop 1 at old)
          ∙ sym (append_assoc a.values (b ∷ []) (drop (at + 1) old));
    }

pub put_all : {A B : Type 0} (Fits : A → B → Type 0) (items : List A) (old new : List B) (at : ℕ)
    → at ≡ length items → length items ≤ length old → PutSoFar Fits items old new at
    → PutsEach Fits items old new done
put_all Fits items old new at all room a = search (rules, take_all)
