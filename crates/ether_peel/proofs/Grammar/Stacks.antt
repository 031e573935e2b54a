-- In every window of every list of bytes there is exactly one stack.
use Rattle.std.proofs.Common.{◌≡◌, ℕ, zero, suc, ◌<◌, List, [], ◌∷◌, length, refl, sym, ap, subst, ◌∙◌, arith, inl, inr}
use Rattle.std.specs.Prelude.{Option, Some, None}
use Rattle.etherparse.specs.Bytes.{IsBytes}
use Rattle.etherparse.specs.Kind.{Kind}
use Rattle.etherparse.specs.Header.{Header, kind_of}
use Rattle.etherparse.specs.Refusal.{Refuses, Accepts}
use Rattle.etherparse.proofs.SubLists.{IsBytes-part}
use Rattle.etherparse.proofs.Rows.{decide, one_row}
use Rattle.etherparse.proofs.Means.{some_header, one_header}
use Rattle.ether_peel.specs.Grammar.Window.{Window, within, payload}
use Rattle.ether_peel.proofs.Grammar.Windows.{shrinks}
use Rattle.ether_peel.specs.Grammar.Expectation.{Expectation, announced, after}
use Rattle.ether_peel.specs.Grammar.Stack.{Ending, Accepted, Fault, IsUnit, Stack}

-- ---- there is one

abbrev pub HasStack : List ℕ → Expectation → Window → Type 0
HasStack list x w = (hs : List Header) × (e : Ending) × Stack list x w hs e

at_kind : (list : List ℕ) (x : Expectation) (w : Window) (kind : Kind) → IsBytes list → announced x ≡ Some kind
    → ((h : Header) → IsUnit list x w h → HasStack list (after x h) (payload w h)) → HasStack list x w
at_kind list x w kind ok e go =
    let bytes = within list w in
    let fit = IsBytes-part w.start w.finish list ok in
    elim (decide w.bound bytes kind fit) [
      | inl r ↦ ([], Fault w x r.0, (refl, refl, kind, e, r.1))
      | inr accepted ↦
          let h = some_header w.bound bytes kind fit accepted in
          let u : IsUnit list x w h.0 = record {
            announced = e ∙ ap Some (sym h.1);
            accepted = subst (Accepts w.bound bytes) (sym h.1) accepted;
            means = h.2;
          } in
          let rest = go h.0 u in
          (h.0 ∷ rest.0, rest.1, (u, rest.2))
    ]

at_place : (list : List ℕ) (x : Expectation) (w : Window) (o : Option Kind) → IsBytes list → announced x ≡ o
    → ((h : Header) → IsUnit list x w h → HasStack list (after x h) (payload w h)) → HasStack list x w
at_place list x w None ok e go = ([], Accepted w x, (refl, refl, e))
at_place list x w (Some kind) ok e go = at_kind list x w kind ok e go

exists_below : (n : ℕ) (list : List ℕ) (x : Expectation) (w : Window) → IsBytes list → length (within list w) < n
    → HasStack list x w
exists_below zero list x w ok le = absurd (omega arith)
exists_below (suc n) list x w ok le =
    at_place list x w (announced x) ok refl
    (λ h u. exists_below n list (after x h) (payload w h) ok (let s = shrinks list x w h u in omega arith))

pub some_stack : (list : List ℕ) (x : Expectation) (w : Window) → IsBytes list → HasStack list x w
some_stack list x w ok = exists_below (suc (length (within list w))) list x w ok (omega arith)

-- ---- and no second one

pub one_stack : (list : List ℕ) (x : Expectation) (w : Window) (hs ks : List Header) (e f : Ending)
    → Stack list x w hs e → Stack list x w ks f → (hs ≡ ks) × (e ≡ f)
one_stack list x w [] [] (Accepted v y) (Accepted u z) s t =
    (refl, λ i. Accepted ((s.0 ∙ sym t.0) i) ((s.1 ∙ sym t.1) i))
one_stack list x w [] [] (Accepted v y) (Fault u z r) s t = let e : None ≡ Some t.2 = sym s.2 ∙ t.3 in absurd cc
one_stack list x w [] [] (Fault v y q) (Accepted u z) s t = let e : None ≡ Some s.2 = sym t.2 ∙ s.3 in absurd cc
one_stack list x w [] [] (Fault v y q) (Fault u z r) s t =
    let e : Some s.2 ≡ Some t.2 = sym s.3 ∙ t.3 in
    let k : s.2 ≡ t.2 = cc in
    let row =
    one_row w.bound (within list w) t.2 q r (subst (λ (k : Kind). Refuses w.bound (within list w) k q) k s.4) t.4 in
    (refl, λ i. Fault ((s.0 ∙ sym t.0) i) ((s.1 ∙ sym t.1) i) (row i))
one_stack list x w [] (k ∷ ks) (Accepted v y) f s t =
    let e : None ≡ Some (kind_of k) = sym s.2 ∙ t.0.announced in absurd cc
one_stack list x w [] (k ∷ ks) (Fault v y r) f s t =
    let e : Some s.2 ≡ Some (kind_of k) = sym s.3 ∙ t.0.announced in
    let same : s.2 ≡ kind_of k = cc in
    absurd (t.0.accepted r (subst (λ (k : Kind). Refuses w.bound (within list w) k r) same s.4))
one_stack list x w (h ∷ hs) [] e (Accepted v y) s t =
    let e : None ≡ Some (kind_of h) = sym t.2 ∙ s.0.announced in absurd cc
one_stack list x w (h ∷ hs) [] e (Fault v y r) s t =
    let e : Some t.2 ≡ Some (kind_of h) = sym t.3 ∙ s.0.announced in
    let same : t.2 ≡ kind_of h = cc in
    absurd (s.0.accepted r (subst (λ (k : Kind). Refuses w.bound (within list w) k r) same t.4))
one_stack list x w (h ∷ hs) (k ∷ ks) e f s t =
    let kinds : Some (kind_of h) ≡ Some (kind_of k) = sym s.0.announced ∙ t.0.announced in
    let kind : kind_of h ≡ kind_of k = cc in
    let same = one_header (within list w) h k kind s.0.means t.0.means in
    let rest =
    one_stack list (after x h) (payload w h) hs ks e f s.1
    (subst (λ (g : Header). Stack list (after x g) (payload w g) ks f) (sym same) t.1) in
    (λ i. same i ∷ rest.0 i, rest.1)
