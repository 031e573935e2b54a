-- How addresses are spelled: the first byte, and the others.
use Rattle.std.proofs.Common.{◌≡◌, ℕ, suc, ◌-◌, ◌<◌, List, [], ◌∷◌, ◌++◌, codes, length, false, refl, ap, arith}
use Rattle.std.specs.Prelude.{◌==◌, slice_index_or, slice_range}
use Rattle.std.specs.List.{flat_map}
use Rattle.std.specs.Fmt.{decimal}
use Rattle.std.proofs.lemmas.List.{take_all}
use Rattle.ether_base.specs.Texts.NumberText.{hex_byte}
use Rattle.ether_format.specs.Spelling.{colon_text, dotted_text}

tail_is : (b : ℕ) (bs : List ℕ) → slice_range (b ∷ bs) 1 (length (b ∷ bs)) ≡ bs
tail_is b bs = take_all (suc (length bs) - 1) bs (omega arith)

pub colon_parts : (bytes : List ℕ) → 0 < length bytes
    → hex_byte false (slice_index_or bytes 0 0)
    ++ flat_map (λ b. codes ":" ++ hex_byte false b) (slice_range bytes 1 (length bytes))
    ≡ colon_text bytes
unfolding colon_text
colon_parts [] lt = absurd (omega (arith, lt))
colon_parts (b ∷ bs) lt = ap (λ l. hex_byte false b ++ flat_map (λ c. codes ":" ++ hex_byte false c) l) (tail_is b bs)

pub dotted_parts : (bytes : List ℕ) → 0 < length bytes
    → decimal (slice_index_or bytes 0 0) ++ flat_map (λ b. codes "." ++ decimal b) (slice_range bytes 1 (length bytes))
    ≡ dotted_text bytes
unfolding dotted_text
dotted_parts [] lt = absurd (omega (arith, lt))
dotted_parts (b ∷ bs) lt = ap (λ l. decimal b ++ flat_map (λ c. codes "." ++ decimal c) l) (tail_is b bs)

pub colon_none : (bytes : List ℕ) → length bytes ≡ 0 → [] ≡ colon_text bytes
unfolding colon_text
colon_none [] none = refl
colon_none (b ∷ bs) none = absurd (omega (arith, none))

pub dotted_none : (bytes : List ℕ) → length bytes ≡ 0 → [] ≡ dotted_text bytes
unfolding dotted_text
dotted_none [] none = refl
dotted_none (b ∷ bs) none = absurd (omega (arith, none))

-- the six bytes of a MAC address
pub colon_of_six : (l : List ℕ) → length l ≡ 6
    → hex_byte false (slice_index_or l 0 0) ++ (codes ":" ++ hex_byte false (slice_index_or l 1 0))
    ++ (codes ":" ++ hex_byte false (slice_index_or l 2 0))
    ++ (codes ":" ++ hex_byte false (slice_index_or l 3 0)) ++ (codes ":" ++ hex_byte false (slice_index_or l 4 0))
    ++ (codes ":" ++ hex_byte false (slice_index_or l 5 0))
    ≡ colon_text l
unfolding colon_text
colon_of_six (a ∷ b ∷ c ∷ d ∷ e ∷ f ∷ []) six = refl
colon_of_six l six = absurd (omega (arith, six))

-- a list that is not empty has an element
pub some_are : (bytes : List ℕ) → (length bytes == 0) ≡ false → 0 < length bytes
some_are [] e = absurd (cc)
some_are (b ∷ bs) e = omega arith
