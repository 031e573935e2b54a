-- Text that is written for each element of a list.
use Rattle.std.proofs.Common.{◌≡◌, ℕ, zero, suc, ◌+◌, ◌-◌, ◌<◌, ◌≤◌, List, [], ◌∷◌, ◌++◌, length, map, take, drop, Option, refl, sym, ap, ◌∙◌, append_assoc, append-nil, arith}
use Rattle.std.specs.Prelude.{slice_index_or}
use Rattle.std.specs.List.{flat_map}
use Rattle.ether_output.specs.OutputBuffer.{Takes}
use Rattle.ether_output.specs.declared.output_buffer.OutputBuffer.{OutputBuffer}
use Rattle.ether_output.proofs.OutputBufferLemmas.{Takes-none, Takes-then, Takes-same}

-- the text so far is that of the first elements
pub record WritesFirst {W X : Type 0} (contents : W → Option (List ℕ)) (can_fail : Type 0) (f : X → List ℕ)
    (list : List X) (count : ℕ)
    (old new : OutputBuffer W) : Type 0 where
  pub text : List ℕ
  pub taken : Takes contents can_fail old text new
  pub parts : text ++ flat_map f (drop count list) ≡ flat_map f list

next_text : {X : Type 0} (f : X → List ℕ) (list : List X) (n : ℕ) (x : X) → n < length list
    → flat_map f (drop n list) ≡ f (slice_index_or list n x) ++ flat_map f (drop (suc n) list)
next_text f [] n x lt = absurd (omega (arith, lt))
next_text f (y ∷ l) zero x lt = refl
next_text f (y ∷ l) (suc n) x lt = next_text f l n x (omega (arith, lt))

none_after : {X : Type 0} (f : X → List ℕ) (list : List X) (n : ℕ) → length list ≤ n → flat_map f (drop n list) ≡ []
none_after f [] zero le = refl
none_after f [] (suc n) le = refl
none_after f (y ∷ l) zero le = absurd (omega (arith, le))
none_after f (y ∷ l) (suc n) le = none_after f l n (omega (arith, le))

module _ {W X : Type 0} (contents : W → Option (List ℕ)) (can_fail : Type 0) (f : X → List ℕ) (list : List X) where
  pub first_none : (out : OutputBuffer W) → WritesFirst contents can_fail f list 0 out out
  first_none out = record { text = []; taken = Takes-none contents can_fail out; parts = refl }

  pub first_next : (n : ℕ) (x : X) (old mid new : OutputBuffer W) → n < length list
      → WritesFirst contents can_fail f list n old mid → Takes contents can_fail mid (f (slice_index_or list n x)) new
      → WritesFirst contents can_fail f list (n + 1) old new
  first_next n x old mid new lt a taken = record {
    text = a.text ++ f (slice_index_or list n x);
    taken = Takes-then a.taken taken;
    parts =
        (let e : n + 1 ≡ suc n = omega arith in ap
        (λ (k : ℕ). (a.text ++ f (slice_index_or list n x)) ++ flat_map f (drop k list)) e)
        ∙ append_assoc a.text (f (slice_index_or list n x)) (flat_map f (drop (suc n) list))
        ∙ ap (λ (l : List ℕ). a.text ++ l) (sym (next_text f list n x lt)) ∙ a.parts;
  }

  pub first_all : (n : ℕ) (old new : OutputBuffer W) → length list ≤ n → WritesFirst contents can_fail f list n old new
      → Takes contents can_fail old (flat_map f list) new
  first_all n old new le a =
      Takes-same (sym (append-nil a.text) ∙ ap (λ (l : List ℕ). a.text ++ l) (sym (none_after f list n le)) ∙ a.parts)
      a.taken

-- ---- the first of a list, and the others

take_all : {X : Type 0} (l : List X) (n : ℕ) → n ≡ length l → take n l ≡ l
take_all [] zero is = refl
take_all [] (suc n) is = absurd (omega (arith, is))
take_all (x ∷ l) zero is = absurd (omega (arith, is))
take_all (x ∷ l) (suc n) is = ap (λ k. x ∷ k) (take_all l n (omega (arith, is)))

pub first_others : {X : Type 0} (l : List X) (d : X) → 1 ≤ length l
    → l ≡ slice_index_or l 0 d ∷ take (length l - 1) (drop 1 l)
first_others [] d le = absurd (omega (arith, le))
first_others (x ∷ l) d le = ap (λ k. x ∷ k) (sym (take_all l (length (x ∷ l) - 1) (omega arith)))

pub none_of : {X : Type 0} (l : List X) → length l ≡ 0 → l ≡ []
none_of [] is = refl
none_of (x ∷ l) is = absurd (omega (arith, is))

pub flat_map-map : {X Y Z : Type 0} (f : Y → List Z) (g : X → Y) (l : List X)
    → flat_map f (map g l) ≡ flat_map (λ x. f (g x)) l
flat_map-map f g [] = refl
flat_map-map f g (x ∷ l) = ap (λ k. f (g x) ++ k) (flat_map-map f g l)

pub flat_map-append : {X Z : Type 0} (f : X → List Z) (l k : List X)
    → flat_map f (l ++ k) ≡ flat_map f l ++ flat_map f k
flat_map-append f [] k = refl
flat_map-append f (x ∷ l) k =
    ap (λ m. f x ++ m) (flat_map-append f l k) ∙ sym (append_assoc (f x) (flat_map f l) (flat_map f k))
