-- What a limit on extensions changes.
use Rattle.std.proofs.Common.{◌≡◌, ℕ, zero, suc, ◌-◌, ◌*◌, ◌<◌, ◌≤◌, List, [], ◌∷◌, ◌++◌, length, refl, sym, ap, subst, ◌∙◌, arith, Bool, true, false}
use Rattle.std.specs.Prelude.{Option, Some, None}
use Rattle.etherparse.specs.Kind.{Kind}
use Rattle.etherparse.specs.Header.{Header, kind_of}
use Rattle.etherparse.specs.Refusal.{Refuses}
use Rattle.etherparse.proofs.Means.{one_header}
use Rattle.ether_peel.specs.Grammar.Window.{Window, within, payload}
use Rattle.ether_peel.specs.Grammar.Expectation.{Next, Expectation, is_extension, next_after, lowered, after}
use Rattle.ether_peel.specs.Grammar.Stack.{Ending, Accepted, Fault, last_window, last_expected, IsUnit, Stack}
use Rattle.ether_peel.specs.Walker.Summary.{fault_of}
use Rattle.ether_peel.specs.Walker.Fault.{fault_in}
use Rattle.ether_peel.proofs.Grammar.Windows.{shrinks}
use Rattle.ether_peel.proofs.Grammar.Announced.{limited, announced_free, announced_more}

-- ---- a front

lowered_none : (b : Bool) → lowered b None ≡ None
lowered_none true = refl
lowered_none false = refl

-- the stack without a limit after a header
free_after : (list : List ℕ) (next : Next) (w : Window) (h : Header) (ks : List Header) (f : Ending)
    → Stack list (after (limited next None) h) w ks f → Stack list (limited (next_after h) None) w ks f
free_after list next w h ks f t =
    subst (λ (l : Option ℕ). Stack list (limited (next_after h) l) w ks f) (lowered_none (is_extension (kind_of h))) t

-- with a limit there is a front of the headers
pub cut_off : (list : List ℕ) (next : Next) (limit : Option ℕ) (w : Window) (hs ks : List Header) (e f : Ending)
    → Stack list (limited next limit) w hs e → Stack list (limited next None) w ks f
    → (rest : List Header) × (ks ≡ hs ++ rest)
cut_off list next limit w [] ks e f s t = (ks, refl)
cut_off list next limit w (h ∷ hs) [] e (Accepted v y) s t =
    let g : None ≡ Some (kind_of h) = sym t.2 ∙ announced_free next limit (kind_of h) s.0.announced in
    absurd cc
cut_off list next limit w (h ∷ hs) [] e (Fault v y r) s t =
    let g : Some t.2 ≡ Some (kind_of h) = sym t.3 ∙ announced_free next limit (kind_of h) s.0.announced in
    let same : t.2 ≡ kind_of h = cc in
    absurd (s.0.accepted r (subst (λ (k : Kind). Refuses w.bound (within list w) k r) same t.4))
cut_off list next limit w (h ∷ hs) (k ∷ ks) e f s t =
    let g : Some (kind_of k) ≡ Some (kind_of h) =
    sym t.0.announced ∙ announced_free next limit (kind_of h) s.0.announced in
    let kind : kind_of k ≡ kind_of h = cc in
    let same = one_header (within list w) k h kind t.0.means s.0.means in
    let following = subst (λ (x : Header). Stack list (after (limited next None) x) (payload w x) ks f) same t.1 in
    let rest =
    cut_off list (next_after h) (lowered (is_extension (kind_of h)) limit) (payload w h) hs ks e f s.1
    (free_after list next (payload w h) h ks f following) in
    (rest.0, λ i. same i ∷ rest.1 i)

-- ---- all of them

-- the same but for how many extensions may still be read
pub record SameEnd (e f : Ending) : Type 0 where
  pub window : last_window f ≡ last_window e
  pub next : (last_expected f).next ≡ (last_expected e).next
  pub fault : fault_of f ≡ fault_of e

-- an extension, which takes at least four bytes, lowers it by one
lowered_by : (b : Bool) (n : ℕ) → (m : ℕ) × (lowered b (Some (suc n)) ≡ Some m) × (n ≤ m)
lowered_by true n = (suc n - 1, refl, omega arith)
lowered_by false n = (suc n, refl, omega arith)

-- with a limit greater than a fourth of the bytes there are all of the headers
pub leave_alone : (list : List ℕ) (next : Next) (n : ℕ) (w : Window) (hs : List Header) (e : Ending)
    → length (within list w) < 4 * n → Stack list (limited next None) w hs e
    → (f : Ending) × Stack list (limited next (Some n)) w hs f × SameEnd e f
leave_alone list next zero w hs e lt s = absurd (omega arith)
leave_alone list next (suc n) w [] (Accepted v y) lt s = (
  Accepted w (limited next (Some (suc n))),
  (refl, refl, announced_more next n ∙ s.2),
  record { window = sym s.0; next = ap (λ (x : Expectation). x.next) (sym s.1); fault = refl },
)
leave_alone list next (suc n) w [] (Fault v y r) lt s = (
  Fault w (limited next (Some (suc n))) r,
  (refl, refl, s.2, announced_more next n ∙ s.3, s.4),
  record {
    window = sym s.0;
    next = ap (λ (x : Expectation). x.next) (sym s.1);
    fault = ap (λ (u : Window). Some (fault_in u r)) (sym s.0);
  },
)
leave_alone list next (suc n) w (h ∷ hs) e lt s =
    let u : IsUnit list (limited next (Some (suc n))) w h = record {
      announced = announced_more next n ∙ s.0.announced;
      accepted = s.0.accepted;
      means = s.0.means;
    } in
    let less = shrinks list (limited next None) w h s.0 in
    let m = lowered_by (is_extension (kind_of h)) n in
    let below = m.2 in
    let rest =
    leave_alone list (next_after h) m.0 (payload w h) hs e (omega arith)
    (free_after list next (payload w h) h hs e s.1) in (
      rest.0,
      (u, subst (λ (l : Option ℕ). Stack list (limited (next_after h) l) (payload w h) hs rest.0) (sym m.1) rest.1),
      rest.2,
    )
