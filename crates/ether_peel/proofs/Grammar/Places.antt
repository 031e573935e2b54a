-- Where headers and last windows lie. A stack depends on no bytes but its window's, and moves with it.
use Rattle.std.proofs.Common.{◌≡◌, ℕ, ◌+◌, ◌-◌, ◌≤◌, List, [], ◌∷◌, ◌++◌, length, refl, sym, ap, subst, ◌∙◌, arith, inl, Bool, true, false}
use Rattle.std.proofs.lemmas.List.{append-nil}
use Rattle.etherparse.specs.Header.{Header, header_len}
use Rattle.etherparse.specs.Refusal.{Refusal, Length, UnsupportedPacketType, UnsupportedHardwareType, UnexpectedVersion, InvalidShortLen}
use Rattle.ether_peel.specs.Grammar.Window.{Window, within, IsIn, payload}
use Rattle.ether_peel.proofs.Grammar.Windows.{payload_in, payload_narrows}
use Rattle.ether_peel.specs.Grammar.Expectation.{Expectation, after}
use Rattle.ether_peel.specs.Grammar.Stack.{Ending, Accepted, Fault, last_window, last_expected, Stack}
use Rattle.ether_peel.specs.Grammar.Places.{place, moved, moved_ending, StacksAreLocal}
use Rattle.ether_peel.proofs.Grammar.LongerBytes.{longer, IsBelow}
use Rattle.ether_peel.proofs.Grammar.Carrying.{Leads, leads, beyond, Carries, carried_finish, StaysShort, ending_in, carry_stack, refused_below}

-- ---- places

pub place_least : (at : ℕ) (hs : List Header) → at ≤ place at hs
place_least at [] = omega arith
place_least at (h ∷ hs) = let k = place_least (at + header_len h) hs in omega arith

pub place-append : (at : ℕ) (hs ks : List Header) → place at (hs ++ ks) ≡ place (place at hs) ks
place-append at [] ks = refl
place-append at (h ∷ hs) ks = place-append (at + header_len h) hs ks

-- a later window begins where the headers before it end, and lies in the first one
pub record LiesAfter (w : Window) (hs : List Header) (v : Window) : Type 0 where
  pub start : v.start ≡ place w.start hs
  pub ordered : v.start ≤ v.finish
  pub inside : v.finish ≤ w.finish

pub leads_after : (list : List ℕ) (x : Expectation) (w : Window) (hs : List Header) (y : Expectation) (v : Window)
    → IsIn list w → Leads list x w hs y v → LiesAfter w hs v
leads_after list x w [] y v at l =
    subst (LiesAfter w []) (sym l.1) (record { start = refl; ordered = at.ordered; inside = omega arith })
leads_after list x w (h ∷ hs) y v at l =
    let rest = leads_after list (after x h) (payload w h) hs y v (payload_in list x w h at l.0) l.1 in
    let a = rest.inside in
    let b = payload_narrows list x w h at l.0 in
    record { start = rest.start; ordered = rest.ordered; inside = omega arith }

-- the last window of a stack
pub last_after : (list : List ℕ) (x : Expectation) (w : Window) (hs : List Header) (e : Ending) → IsIn list w
    → Stack list x w hs e → LiesAfter w hs (last_window e)
last_after list x w hs e at s = leads_after list x w hs (last_expected e) (last_window e) at (leads list x w hs e s).0

-- each header ends before the last window does
pub header_before : (w v : Window) (hs : List Header) (h : Header) (later : List Header)
    → LiesAfter w (hs ++ h ∷ later) v → place w.start hs + header_len h ≤ v.finish
header_before w v hs h later b =
    let a = place-append w.start hs (h ∷ later) in
    let c = place_least (place w.start hs + header_len h) later in
    let d = b.start in
    let e = b.ordered in
    omega arith

-- ---- moving

beyond_nil : (closed : Bool) → beyond closed [] ≡ []
beyond_nil true = refl
beyond_nil false = refl

pub longer_zero : (r : Refusal) → longer 0 r ≡ r
longer_zero (Length required len source layer) = ap (λ (n : ℕ). Length required n source layer) (omega arith)
longer_zero (UnsupportedPacketType p) = refl
longer_zero (UnsupportedHardwareType h) = refl
longer_zero UnexpectedVersion = refl
longer_zero InvalidShortLen = refl

stays_short : (list : List ℕ) (e : Ending) → Stack list (last_expected e) (last_window e) [] e → StaysShort list [] e
stays_short list (Accepted v y) s = tt
stays_short list (Fault v y r) s =
    let a : length (within list v) ≡ length (within list v) + length (beyond v.closed []) =
    sym (ap (λ (l : List ℕ). length (within list v) + length l) (beyond_nil v.closed) ∙ omega arith) in
    subst (λ (n : ℕ). IsBelow n r) a (refused_below v.bound (within list v) s.2 r s.4)

-- a window with the same bytes and mark, as far after v as u is after w
moved_is : (list other : List ℕ) (w v u last : Window) → w.start ≤ u.start → Carries list other [] u last
    → last.start + w.start ≡ u.start + v.start → last ≡ moved w.start v.start u
moved_is list other w v u last le c at =
    let f = carried_finish list other [] u last c in
    let n : length (beyond u.closed []) ≡ 0 = ap length (beyond_nil u.closed) in
    let d = c.old.ordered in
    let a : last.start ≡ v.start + (u.start - w.start) = omega arith in
    let b : last.finish ≡ v.start + (u.finish - w.start) = omega arith in
    λ i. record { start = a i; finish = b i; closed = c.closed i; bound = c.bound i }

ending_is : (w v last : Window) (e : Ending) → last ≡ moved w.start v.start (last_window e)
    → ending_in [] last e ≡ moved_ending w.start v.start e
ending_is w v last (Accepted u y) m = ap (λ (k : Window). Accepted k y) m
ending_is w v last (Fault u y r) m =
    let same : longer (length (beyond u.closed [])) r ≡ r =
    ap (λ (l : List ℕ). longer (length l) r) (beyond_nil u.closed) ∙ longer_zero r in
    λ i. Fault (m i) y (same i)

pub is_local : StacksAreLocal
is_local list other x w v hs e old new same mark bound s =
    let l = leads list x w hs e s in
    let bytes : within other v ≡ within list w ++ beyond w.closed [] =
    sym same ∙ sym (append-nil (within list w))
    ∙ ap (λ (l : List ℕ). within list w ++ l) (sym (beyond_nil w.closed)) in
    let c : Carries list other [] w v = record {
      old = old;
      new = new;
      closed = sym mark;
      bound = sym bound;
      bytes = bytes;
    } in
    let t = carry_stack list other [] x w v hs e c (inl (beyond_nil w.closed)) s (stays_short list e l.1) in
    let b = leads_after list x w hs (last_expected e) (last_window e) old l.0 in
    let p = place_least w.start hs in
    let k = b.start in
    let m = moved_is list other w v (last_window e) t.last (omega arith) t.carries t.start in
    subst (Stack other x v hs) (ending_is w v t.last e m) t.stack
