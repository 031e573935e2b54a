-- A slice whose front was written if it has room: what a call on it then returns of its rest, and what it lends.
use Rattle.std.proofs.Common.{◌≡◌, ℕ, ◌≤◌, ◌<◌, inl, inr, List, [], ◌∷◌, ◌++◌, length, refl, ap, ◌∙◌, arith, length-append, length-drop, MutBor, Ok, Err}
use Rattle.std.specs.Prelude.{take, drop, MatchResult, Result}
use Rattle.std.specs.Borrow.{Array, u8}
use Rattle.std.proofs.lemmas.Bool.{cases_lt}
use Rattle.std.proofs.lemmas.Grind.{common_steps}
use Rattle.ether_base.specs.declared.err.layer.Layer.{Layer}
use Rattle.ether_base.specs.declared.err.slice_write_space_error.SliceWriteSpaceError.{SliceWriteSpaceError}
use Rattle.ether_base.specs.WriteFront.{AnswersRest, LendsRest}
use seplogic.Ra.Ura.{Ura}
use base.Logic.{ent}
use base.Fml.{fres}
use types.Logic.{Logic, sem}
use types.Kit.{‵, ◌$◌, ◌∵◌, !, qed, rewrite, done}
use denote.Follow.{follows, follows_by}

take_front : (bytes more : List ℕ) (m : ℕ) → length bytes ≡ m → take m (bytes ++ more) ≡ bytes
take_front bytes more m e = grind (arith, common_steps)

drop_front : (bytes more : List ℕ) (m : ℕ) → length bytes ≡ m → drop m (bytes ++ more) ≡ more
drop_front bytes more m e = grind (arith, common_steps)

-- the front that was written in the one case, and the whole as it was in the other
abbrev pub Fronts : ℕ → List ℕ → List ℕ → List ℕ → Result (MutBor (List ℕ)) SliceWriteSpaceError → Type 0
Fronts m whole bytes old r = MatchResult r (λ rest. take m whole ≡ bytes) (λ e. whole ≡ old)

module _ (m : ℕ) (layer : Layer) (whole bytes old : List ℕ) (width : length bytes ≡ m)
    (wrote : m ≤ length old → whole ≡ bytes ++ drop m old) (kept : length old < m → whole ≡ old) where
  pub same_length : length whole ≡ length old
  same_length = elim (cases_lt (length old) m) [
    | inl lt ↦ ap length (kept lt)
    | inr le ↦ ap length (wrote le) ∙ length-append bytes (drop m old) ∙ (let d = length-drop m old in omega arith)
  ]

  pub answers : (r : Result (MutBor (List ℕ)) SliceWriteSpaceError) → AnswersRest m layer whole r
      → AnswersRest m layer old r
  answers (Ok rest) h =
      let le : m ≤ length old = (let e = same_length in let l = h.room in omega arith) in
      record {
        room = le;
        same = h.same ∙ ap (λ (l : List ℕ). drop m l) (wrote le) ∙ drop_front bytes (drop m old) m width;
      }
  answers (Err e) h = record {
    short = let i = same_length in let l = h.short in omega arith;
    error =
        h.error
        ∙ ap
        (λ (n : ℕ). let e : SliceWriteSpaceError =
        record { required_len = m; len = n; layer = layer; layer_start_offset = 0 } in e)
        same_length;
  }

  pub fronts : (r : Result (MutBor (List ℕ)) SliceWriteSpaceError) → AnswersRest m layer whole r
      → Fronts m whole bytes old r
  fronts (Ok rest) h =
      ap (λ (l : List ℕ). take m l) (wrote (let e = same_length in let l = h.room in omega arith))
      ∙ take_front bytes (drop m old) m width
  fronts (Err e) h = kept (let i = same_length in let l = h.short in omega arith)

module _ {M : Type 1} {𝓤 : Ura M} (𝓛 : Logic 𝓤) where
  -- how the whole follows the rest is how the slice does
  pub lends : (m : ℕ) (whole : MutBor (List ℕ)) (bytes : List ℕ) (old : MutBor (List ℕ))
      (r : Result (MutBor (List ℕ)) SliceWriteSpaceError)
      → whole.ghost_name ≡ old.ghost_name → Fronts m whole.now bytes old.now r
      → ent 𝓤 (sem 𝓛 (LendsRest (take m whole.now) whole r)) (sem 𝓛 (LendsRest bytes old r))
  unfolding follows_by
  lends m whole bytes old (Ok rest) same e =
      qed 𝓛 (‵ (follows (Array u8 0) (Array u8 0) whole.ghost_name rest.ghost_name (λ w. take m whole.now ++ w)) ∷ [])
      ∵ rewrite ! 0
      (λ (zs : List ℕ). ‵ (follows (Array u8 0) (Array u8 0) whole.ghost_name rest.ghost_name (λ w. zs ++ w))) e
      refl
      $ rewrite ! 0 (λ (γ : ℕ). ‵ (follows (Array u8 0) (Array u8 0) γ rest.ghost_name (λ w. bytes ++ w))) same refl $
      done !
  lends m whole bytes old (Err x) same e = qed 𝓛 (‵ (fres whole.ghost_name ((Array u8 0).coded.code whole.now)) ∷ [])
      ∵ rewrite ! 0 (λ (zs : List ℕ). ‵ (fres whole.ghost_name ((Array u8 0).coded.code zs))) e refl
      $ rewrite ! 0 (λ (γ : ℕ). ‵ (fres γ ((Array u8 0).coded.code old.now))) same refl $ done !
