-- Headers, one after another.
use Rattle.std.proofs.Common.{◌≡◌, ℕ, ◌+◌, ◌-◌, ◌<◌, List, ◌∷◌, ◌++◌, length, take, drop, arith, length-drop, map, get_or, Result, Ok, Err, is_ok, is_err, if◌then◌else◌, true≢false, false, refl, sym, ap, ◌∙◌, append_assoc}
use Rattle.std.proofs.lemmas.List.{drop_more, take_all}
use Rattle.serde_json.specs.View.{view}
use Rattle.serde_json.specs.declared.value.Value.{Value}
use Rattle.ether_make.specs.Headers.{header_bytes, headers_bytes, next_in}
use Rattle.ether_make.specs.Refusals.{Meaning, joined, result_map}

-- what a vector has after a call that did not fail
pub not_err : {T E : Type 0} (r : Result T E) (new grown old : List ℕ) → is_err r ≡ false
    → new ≡ (if is_ok r then grown else old) → new ≡ grown
not_err (Ok x) new grown old e h = h
not_err (Err x) new grown old e h = absurd (true≢false e)

joined-ok : (done bytes : List ℕ) (later : Meaning (List ℕ))
    → result_map (λ more. done ++ more) (joined (Ok bytes) later) ≡ result_map (λ more. (done ++ bytes) ++ more) later
joined-ok done bytes (Err r) = refl
joined-ok done bytes (Ok more) = ap Ok (sym (append_assoc done bytes more))

-- the rest of a slice is all of it
pub rest-whole : (vs : List Value) (i : ℕ) → take (length vs - i) (drop i vs) ≡ drop i vs
rest-whole vs i = take_all (length vs - i) (drop i vs) (omega (arith, length-drop i vs))

-- the bytes of one header more
pub headers-next : (at : ℕ) (vs : List Value) (v : Value) (done bytes : List ℕ) → at < length vs → v ≡ get_or vs at v
    → header_bytes at (next_in (map view (drop (at + 1) vs))) (view v) ≡ Ok bytes
    → result_map (λ more. done ++ more) (headers_bytes at (map view (drop at vs)))
    ≡ result_map (λ more. (done ++ bytes) ++ more) (headers_bytes (at + 1) (map view (drop (at + 1) vs)))
headers-next at vs v done bytes h is one =
    ap (λ (ws : List Value). result_map (λ more. done ++ more) (headers_bytes at (map view ws)))
    (drop_more vs at v h ∙ ap (λ w. w ∷ drop (at + 1) vs) (sym is))
    ∙ ap (λ m. result_map (λ more. done ++ more) (joined m (headers_bytes (at + 1) (map view (drop (at + 1) vs))))) one
    ∙ joined-ok done bytes (headers_bytes (at + 1) (map view (drop (at + 1) vs)))
