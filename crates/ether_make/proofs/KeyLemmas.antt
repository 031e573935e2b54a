-- Names of members.
use Rattle.std.proofs.Common.{◌≡◌, ℕ, List, [], ◌∷◌, ◌++◌, Bool, true, false, ◌||◌, Option, Some, None, String, Global, string_bytes, if◌then◌else◌, refl, sym, ap, ◌∙◌, true≢false}
use Rattle.std.specs.Map.{keys_of}
use Rattle.serde_json.specs.View.{members_view}
use Rattle.serde_json.specs.declared.value.Value.{Value}
use Rattle.ether_make.specs.Objects.{is_among, unknown_in}
use Rattle.std.specs.Str.{bytes_eq}

-- the first key that is not among some names
abbrev pub unknown_key : (known : List (List ℕ)) → List (String Global) → Option (List ℕ)
unknown_key known [] = None
unknown_key known (k ∷ ks) = if is_among known (string_bytes k) then unknown_key known ks else Some (string_bytes k)

pub unknown-of_keys : (known : List (List ℕ)) (es : List (String Global × Value))
    → unknown_in known (members_view es) ≡ unknown_key known (keys_of es)
unknown-of_keys known [] = refl
unknown-of_keys known (e ∷ es) =
    ap (λ later. if is_among known (string_bytes e.0) then later else Some (string_bytes e.0))
    (unknown-of_keys known es)

or-assoc : (a b c : Bool) → (a || (b || c)) ≡ ((a || b) || c)
or-assoc true b c = refl
or-assoc false b c = refl

pub among-append : (xs ys : List (List ℕ)) (k : List ℕ) → is_among (xs ++ ys) k ≡ (is_among xs k || is_among ys k)
among-append [] ys k = refl
among-append (x ∷ xs) ys k = ap (λ b. bytes_eq x k || b) (among-append xs ys k)
    ∙ or-assoc (bytes_eq x k) (is_among xs k) (is_among ys k)

pub key-known : (known : List (List ℕ)) (k : String Global) (from later : List (String Global)) → from ≡ k ∷ later
    → is_among known (string_bytes k) ≡ true → unknown_key known from ≡ unknown_key known later
key-known known k from later e h = rw (e, h) refl

pub key-unknown : (known : List (List ℕ)) (k : String Global) (from later : List (String Global)) → from ≡ k ∷ later
    → is_among known (string_bytes k) ≡ false → unknown_key known from ≡ Some (string_bytes k)
key-unknown known k from later e h = rw (e, h) refl

pub or-left : (r a b : Bool) → r ≡ a → r ≡ true → r ≡ (a || b)
or-left r true b e h = h
or-left r false b e h = absurd (true≢false (sym h ∙ e))

pub or-right : (r a b s : Bool) → r ≡ a → r ≡ false → s ≡ b → s ≡ (a || b)
or-right r true b s e h f = absurd (true≢false (sym e ∙ h))
or-right r false b s e h f = f
