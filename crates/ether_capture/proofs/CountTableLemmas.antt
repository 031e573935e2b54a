-- A map whose keys are texts, by their bytes.
use Rattle.std.proofs.Common.{◌≡◌, ⊎_elim, ℕ, List, Bool, true, false, Option, Some, None, refl, sym, ap, subst, ◌∙◌}
use Rattle.std.specs.Prelude.{if◌then◌else◌}
use Rattle.std.specs.Str.{bytes_eq}
use Rattle.std.specs.Ordering.{is_eq, nat_cmp}
use Rattle.std.specs.Cmp.{eq_by_cmp_equiv}
use Rattle.std.specs.Cmp.Lexicographic.{slice_cmp, bytes_decides, nat_list_cmp_total, nat_list_eq_equiv}
use Rattle.std.specs.Global.{Vec}
use Rattle.std.specs.BTreeMap.{BTreeMap, UpdatesBy, get_by}
use Rattle.std.specs.Map.{lookup, IsKeyTest, AreApart, KeepsOthers}
use Rattle.std.proofs.lemmas.Bool.{cases_Bool, cond-true, cond-false}
use Rattle.std.proofs.lemmas.Map.Text.{is_eq-slice_cmp}
use Rattle.ether_capture.specs.declared.count.Count.{Count}
use Rattle.ether_capture.specs.KeyCounts.{AddsHit, plus}

apart : (bs cs ks : List ℕ) → bytes_eq bs cs ≡ false → is_eq (slice_cmp nat_cmp bs ks) ≡ true
    → is_eq (slice_cmp nat_cmp cs ks) ≡ false
apart bs cs ks n y =
    is_eq-slice_cmp cs ks ∙ nat_list_eq_equiv.symm cs ks
    ∙ sym (nat_list_eq_equiv.congr bs ks cs (sym (is_eq-slice_cmp bs ks) ∙ y)) ∙ n

other_entries : {K X : Type 0} (eq : K → K → Bool) (test : K → Bool) (old new : List (K × X))
    → KeepsOthers eq test old new
    → (other : K → Bool) → IsKeyTest eq other → AreApart test other → lookup other new ≡ lookup other old
unfolding KeepsOthers
other_entries eq test old new h = h

-- the value under a text
abbrev pub at : {X : Type 0} → BTreeMap (Vec ℕ) X → List ℕ → Option X
at m q = get_by (λ k. slice_cmp nat_cmp q k.items) m

module _ {X : Type 0} (old new : BTreeMap (Vec ℕ) X) (key : List ℕ) (w : Option X) where
  -- the value under any text, after a change under one
  pub updates_at : UpdatesBy (λ x y. slice_cmp nat_cmp x.items y.items) (λ k. slice_cmp nat_cmp key k.items) old new w
      → (q : List ℕ) → at new q ≡ (if bytes_eq key q then w else at old q)
  updates_at h q =
      ⊎_elim
      (λ y. subst (λ l. at new l ≡ w) ((bytes_decides key q).0 y) h.1 ∙ sym (cond-true (bytes_eq key q) w (at old q) y))
      (λ n. other n ∙ sym (cond-false (bytes_eq key q) w (at old q) n))
      (cases_Bool (bytes_eq key q))
    where
      other : bytes_eq key q ≡ false → at new q ≡ at old q
      other n =
          other_entries _ _ _ _ h.3 _ (λ x y. (eq_by_cmp_equiv nat_list_cmp_total).congr q x.items y.items)
          (λ k. apart key q k.items n)

module _ (old new : BTreeMap (Vec ℕ) Count) (key : List ℕ) (more count next : Count) where
  pub with_one_more : at old key ≡ Some count → next ≡ plus (Some count) more
      → UpdatesBy (λ x y. slice_cmp nat_cmp x.items y.items) (λ k. slice_cmp nat_cmp key k.items) old new (Some next)
      → AddsHit (record { key = key; count = more }) (at old) (at new)
  with_one_more is sum h q = updates_at old new key (Some next) h q ∙ same (bytes_eq key q) refl
    where
      same : (b : Bool) → bytes_eq key q ≡ b → (if b then Some next else at old q)
          ≡ (if b then Some (plus (at old q) more) else at old q)
      same false e = refl
      same true e =
          ap Some sum ∙ ap (λ o. Some (plus o more)) (sym is ∙ ap (at old) ((bytes_decides key q).0 e))

  pub with_first : at old key ≡ None
      → ((q : List ℕ) → at new q ≡ (if bytes_eq key q then Some (plus None more) else at old q))
      → AddsHit (record { key = key; count = more }) (at old) (at new)
  with_first none h q = h q ∙ same (bytes_eq key q) refl
    where
      same : (b : Bool) → bytes_eq key q ≡ b
          → (if b then Some (plus None more) else at old q) ≡ (if b then Some (plus (at old q) more) else at old q)
      same false e = refl
      same true e = ap (λ o. Some (plus o more)) (sym none ∙ ap (at old) ((bytes_decides key q).0 e))
