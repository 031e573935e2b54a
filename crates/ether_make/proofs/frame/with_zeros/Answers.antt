use Rattle.std.proofs.Common.{◌≡◌, ℕ, zero, suc, ◌-◌, ◌<◌, ◌≤◌, ◌++◌, ◌∷◌, [], List, length, refl, ap, sym, ◌∙◌, arith, append_assoc}
use Rattle.std.proofs.lemmas.List.{append-nil, length_push}
use Rattle.ether_pcap.specs.Writing.{zeros}
use Rattle.ether_make.proofs.frame.with_zeros.Goals as goal

zeros-more : (n m : ℕ) → n ≡ suc m → zeros n ≡ 0 ∷ zeros m
zeros-more n m e = rw e refl

one-more : (xs : List ℕ) → length xs < 60
    → (xs ++ 0 ∷ []) ++ zeros (60 - length (xs ++ 0 ∷ [])) ≡ xs ++ zeros (60 - length xs)
one-more xs h =
    append_assoc xs (0 ∷ []) (zeros (60 - length (xs ++ 0 ∷ [])))
    ∙ ap (λ ys. xs ++ ys) (sym (zeros-more (60 - length xs) (60 - length (xs ++ 0 ∷ []))
    (omega (arith, length_push xs 0))))

no-more : (xs : List ℕ) → 60 ≤ length xs → xs ++ zeros (60 - length xs) ≡ xs
no-more xs h =
    let none : 60 - length xs ≡ zero = omega arith in
    ap (λ n. xs ++ zeros n) none ∙ append-nil xs

pub loop-padded-preserved : goal.loop-padded-preserved
loop-padded-preserved c =
    ap (λ (xs : List ℕ). xs ++ zeros (60 - length xs)) c.in_ok-push.ensures.items
    ∙ one-more c.loop-padded.padded.items (omega (arith, c.loop-padded.padded.ok, c.loop-padded-test.true))
    ∙ c.loop-padded.invariant

pub returns : goal.returns
returns c =
    sym (no-more c.loop-padded.padded.items (omega (arith, c.loop-padded.padded.ok, c.loop-padded-test.false)))
    ∙ c.loop-padded.invariant
