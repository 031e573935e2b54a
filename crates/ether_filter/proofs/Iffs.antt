-- What tests that are joined say.
use Rattle.std.proofs.Common.{◌≡◌, ℕ, ◌<◌, ◌≤◌, refl, sym, ◌∙◌, inl, inr, ◌⊎◌, Bool, true, false, ◌||◌, nat_eq, nat_lt, nat_le, IsTrue, ◌↔◌}
use Rattle.std.specs.Prelude.{not, ◌&&◌}
use Rattle.std.proofs.lemmas.Bool.{eqb-true, eq-eqb, ltb-true, lt-ltb, leb-true, le-leb}

pub iff_trans : {A B C : Type 0} → A ↔ B → B ↔ C → A ↔ C
iff_trans f g = (λ a. g.0 (f.0 a), λ c. f.1 (g.1 c))

pub le_iff : (a b : ℕ) → IsTrue (nat_le a b) ↔ (a ≤ b)
le_iff a b = (leb-true a b, le-leb a b)

pub lt_iff : (a b : ℕ) → IsTrue (nat_lt a b) ↔ (a < b)
lt_iff a b = (ltb-true a b, lt-ltb a b)

pub and_iff : (a b : Bool) {A B : Type 0} → IsTrue a ↔ A → IsTrue b ↔ B → IsTrue (a && b) ↔ (A × B)
and_iff true b f g = (λ t. (f.0 refl, g.0 t), λ both. g.1 both.1)
and_iff false b f g = (λ t. absurd cc, λ both. let got = f.1 both.0 in absurd cc)

pub or_iff : (a b : Bool) {A B : Type 0} → IsTrue a ↔ A → IsTrue b ↔ B → IsTrue (a || b) ↔ (A ⊎ B)
or_iff true b f g = (λ t. inl (f.0 refl), λ it. refl)
or_iff false b f g = (λ t. inr (g.0 t), λ it. elim it [ inl a ↦ (let got = f.1 a in absurd cc) | inr b ↦ g.1 b ])

pub not_iff : (a : Bool) {A : Type 0} → IsTrue a ↔ A → IsTrue (not a) ↔ (A → ⊥)
not_iff true f = (λ t. absurd cc, λ never. absurd (never (f.0 refl)))
not_iff false f = (λ t it. (let got = f.1 it in cc), λ never. refl)

-- ---- by the first test

pub and_then : (a b : Bool) {A B : Type 0} → a ≡ true → IsTrue a ↔ A → IsTrue b ↔ B → IsTrue b ↔ (A × B)
and_then a b is f g = (λ t. (f.0 is, g.0 t), λ both. g.1 both.1)

pub and_else : (a : Bool) {A B : Type 0} → a ≡ false → IsTrue a ↔ A → IsTrue false ↔ (A × B)
and_else a is f = (λ t. absurd cc, λ both. let gone : false ≡ true = sym is ∙ f.1 both.0 in gone)

pub and_self : (a : Bool) {A B : Type 0} → a ≡ false → IsTrue a ↔ A → IsTrue a ↔ (A × B)
and_self a is f = (λ t. absurd (let both : false ≡ true = sym is ∙ t in cc), λ both. f.1 both.0)

pub or_then : (a : Bool) {A B : Type 0} → a ≡ true → IsTrue a ↔ A → IsTrue true ↔ (A ⊎ B)
or_then a is f = (λ t. inl (f.0 is), λ it. refl)

pub or_else : (a b : Bool) {A B : Type 0} → a ≡ false → IsTrue a ↔ A → IsTrue b ↔ B → IsTrue b ↔ (A ⊎ B)
or_else a b is f g = (
  λ t. inr (g.0 t),
  λ it. elim it [ inl got ↦ (let gone : false ≡ true = sym is ∙ f.1 got in absurd cc) | inr it ↦ g.1 it ],
)

pub or_self : (a : Bool) {A B : Type 0} → a ≡ true → IsTrue a ↔ A → IsTrue a ↔ (A ⊎ B)
or_self a is f = (λ t. inl (f.0 t), λ it. is)

pub eq_iff : (a b : ℕ) → IsTrue (nat_eq a b) ↔ (a ≡ b)
eq_iff a b = (eqb-true a b, eq-eqb a b)
