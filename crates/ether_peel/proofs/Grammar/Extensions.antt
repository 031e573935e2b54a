-- What extensions of a list keep of its walk.
use Rattle.std.proofs.Common.{◌≡◌, ℕ, ◌+◌, ◌<◌, ◌≤◌, List, [], ◌∷◌, ◌++◌, length, refl, sym, ap, subst, ◌∙◌, arith, inl, inr, ◌⊎◌, Bool, true, false}
use Rattle.std.specs.Prelude.{Option, Some, None}
use Rattle.std.proofs.lemmas.List.{length-append}
use Rattle.etherparse.specs.Kind as kinds
use Rattle.etherparse.specs.Header.{Header, header_len, payload_len, trailer_len}
use Rattle.etherparse.specs.Refusal.{Refusal, Length, UnsupportedPacketType, UnsupportedHardwareType, UnexpectedVersion, InvalidShortLen}
use Rattle.etherparse.proofs.SubLists.{length-part, part_all}
use Rattle.etherparse.proofs.Means.{unit_fits}
use Rattle.ether_peel.specs.Grammar.Window.{Window, within, IsIn, payload}
use Rattle.ether_peel.proofs.Grammar.Windows.{payload_closed, payload_from, payload_in, payload_narrows}
use Rattle.ether_peel.specs.Grammar.Expectation.{Expectation, EtherType, Sll, Sealed, AfterArp, Start, after, has_fcs, next_has_fcs, Next}
use Rattle.ether_peel.proofs.Grammar.Announced.{announced_is}
use Rattle.ether_peel.specs.Grammar.Stack.{Ending, Accepted, Fault, last_window, last_expected, Stack, whole, Walk}
use Rattle.ether_peel.specs.Grammar.Endings.{refusal_of, IsContent, OpenRefusal, named_len, EndsAlike}
use Rattle.ether_peel.specs.Grammar.Cuts.{reach}
use Rattle.ether_peel.specs.Grammar.Extensions.{ExtensionsKeep}
use Rattle.ether_peel.proofs.Grammar.LongerBytes.{longer, IsBelow}
use Rattle.ether_peel.proofs.Grammar.Stacks.{one_stack}
use Rattle.ether_peel.proofs.Grammar.Carrying.{Leads, leads, beyond, Carries, NoFcs, NextNoFcs, no_fcs_announced, no_fcs_after, no_trailer, StaysShort, ending_in, CarriedStack, carry_stack, refused_below}
use Rattle.ether_peel.proofs.Grammar.Places.{longer_zero}
use Rattle.ether_peel.proofs.Grammar.Cleared.{whole_in}

-- ---- the first window

no_fcs_next : (y : Next) → next_has_fcs y ≡ false → NextNoFcs y
no_fcs_next (Start kinds.Ethernet2) h e = cc
no_fcs_next (Start kinds.Ethernet2Fcs) h e = cc
no_fcs_next (Start kinds.LinuxSll) h e = cc
no_fcs_next (Start kinds.Vlan) h e = cc
no_fcs_next (Start kinds.Macsec) h e = cc
no_fcs_next (Start kinds.Arp) h e = cc
no_fcs_next (EtherType t) h e = no_fcs_announced t e
no_fcs_next (Sll q) h e = cc
no_fcs_next Sealed h e = cc
no_fcs_next AfterArp h e = cc

pub no_fcs_start : (start : Expectation) → has_fcs start ≡ false → NoFcs start
no_fcs_start start h e = no_fcs_next start.next h (announced_is start kinds.Ethernet2Fcs e)

-- the window of a longer list
pub carries_whole : (start : Expectation) (list more : List ℕ) → has_fcs start ≡ false
    → Carries list (list ++ more) more (whole start list) (whole start (list ++ more))
carries_whole start list more h = record {
  old = whole_in start list;
  new = whole_in start (list ++ more);
  closed = refl;
  bound = refl;
  bytes =
      part_all (list ++ more) (length (list ++ more)) (omega arith)
      ∙ ap (λ (l : List ℕ). list ++ l) (sym (ap (λ (c : Bool). beyond c more) h))
      ∙ ap (λ (l : List ℕ). l ++ beyond (has_fcs start) more) (sym (part_all list (length list) (omega arith)));
}

pub carry_walk : (start : Expectation) (list more : List ℕ) (hs : List Header) (e : Ending) → has_fcs start ≡ false
    → Walk start list hs e → StaysShort list more e
    → CarriedStack list (list ++ more) more start (whole start list) (whole start (list ++ more)) hs e
carry_walk start list more hs e h s short =
    carry_stack list (list ++ more) more start (whole start list) (whole start (list ++ more)) hs e
    (carries_whole start list more h) (inr (no_fcs_start start h)) s short

-- ---- the last window

-- it ends with the list if it is open; no unit reaches past the first one
pub record OpenToEnd (list : List ℕ) (w : Window) (hs : List Header) (y : Expectation) (v : Window) : Type 0 where
  pub is_in : IsIn list v
  pub ends : v.closed ≡ false → v.finish ≡ length list
  pub reaches : reach w.start hs ≤ w.finish
  pub free : NoFcs y

payload_ends : (list : List ℕ) (w : Window) (at trailer : ℕ) (o : Option ℕ) → trailer ≡ 0
    → (w.closed ≡ false → w.finish ≡ length list) → (payload_from at trailer o w).closed ≡ false
    → (payload_from at trailer o w).finish ≡ length list
payload_ends list w at trailer None none ends k = let e = ends k in omega arith
payload_ends list w at trailer (Some p) none ends k = absurd cc

pub open_to_end : (list : List ℕ) (x : Expectation) (w : Window) (hs : List Header) (y : Expectation) (v : Window)
    → NoFcs x → IsIn list w → (w.closed ≡ false → w.finish ≡ length list) → Leads list x w hs y v
    → OpenToEnd list w hs y v
open_to_end list x w [] y v free at ends l = record {
  is_in = subst (IsIn list) (sym l.1) at;
  ends = subst (λ (u : Window). u.closed ≡ false → u.finish ≡ length list) (sym l.1) ends;
  reaches = omega arith;
  free = subst NoFcs (sym l.0) free;
}
open_to_end list x w (h ∷ hs) y v free at ends l =
    let none = no_trailer h (λ k. free (l.0.announced ∙ ap Some k)) in
    let next = payload_ends list w (w.start + header_len h) (trailer_len h) (payload_len h) none ends in
    let rest =
    open_to_end list (after x h) (payload w h) hs y v (no_fcs_after x h) (payload_in list x w h at l.0) next l.1 in
    let narrow = payload_narrows list x w h at l.0 in
    let fits = unit_fits w.bound (within list w) h l.0.accepted l.0.means in
    let len = length-part list w.start w.finish at.inside in
    let r = rest.reaches in
    let a = at.ordered in
    record { is_in = rest.is_in; ends = rest.ends; reaches = omega arith; free = rest.free }

pub walk_open_to_end : (start : Expectation) (list : List ℕ) (hs : List Header) (e : Ending) → has_fcs start ≡ false
    → Walk start list hs e → OpenToEnd list (whole start list) hs (last_expected e) (last_window e)
walk_open_to_end start list hs e h s =
    open_to_end list start (whole start list) hs (last_expected e) (last_window e) (no_fcs_start start h)
    (whole_in start list) (λ k. refl) (leads list start (whole start list) hs e s).0

-- ---- endings

alike_in : (list other more : List ℕ) (hs : List Header) (e : Ending) (last : Window)
    → Carries list other more (last_window e) last → last.start ≡ (last_window e).start
    → EndsAlike hs e hs (ending_in more last e)
alike_in list other more hs (Accepted v y) last c at = record {
  headers = refl;
  start = at;
  closed = c.closed;
  expected = refl;
}
alike_in list other more hs (Fault v y r) last c at = record {
  headers = refl;
  start = at;
  closed = c.closed;
  expected = refl;
}

pub accepted_in : (more : List ℕ) (u : Window) (e : Ending) → refusal_of e ≡ None
    → refusal_of (ending_in more u e) ≡ None
accepted_in more u (Accepted v y) k = refl
accepted_in more u (Fault v y r) k = absurd cc

pub refused_in : (more : List ℕ) (u : Window) (e : Ending) (r : Refusal) → refusal_of e ≡ Some r
    → refusal_of (ending_in more u e) ≡ Some (longer (length (beyond (last_window e).closed more)) r)
refused_in more u (Accepted v y) r k = absurd cc
refused_in more u (Fault v y q) r k =
    let e : q ≡ r = cc in ap (λ (r : Refusal). Some (longer (length (beyond v.closed more)) r)) e

pub short_accepted : (list more : List ℕ) (e : Ending) → refusal_of e ≡ None → StaysShort list more e
short_accepted list more (Accepted v y) k = tt
short_accepted list more (Fault v y r) k = absurd cc

pub short_refused : (list more : List ℕ) (e : Ending) (r : Refusal) → refusal_of e ≡ Some r
    → IsBelow (length (within list (last_window e)) + length (beyond (last_window e).closed more)) r
    → StaysShort list more e
short_refused list more (Accepted v y) r k below = tt
short_refused list more (Fault v y q) r k below =
    let e : r ≡ q = cc in subst (IsBelow (length (within list v) + length (beyond v.closed more))) e below

pub refusal_below : (list : List ℕ) (e : Ending) (r : Refusal) → Stack list (last_expected e) (last_window e) [] e
    → refusal_of e ≡ Some r → IsBelow (length (within list (last_window e))) r
refusal_below list (Accepted v y) r s k = absurd cc
refusal_below list (Fault v y q) r s k =
    let e : q ≡ r = cc in subst (IsBelow (length (within list v))) e (refused_below v.bound (within list v) s.2 q s.4)

longer_content : (n : ℕ) (r : Refusal) → IsContent r → longer n r ≡ r
longer_content n (Length required len source layer) c = absurd c
longer_content n (UnsupportedPacketType p) c = refl
longer_content n (UnsupportedHardwareType t) c = refl
longer_content n UnexpectedVersion c = refl
longer_content n InvalidShortLen c = refl

below_content : (n : ℕ) (r : Refusal) → IsContent r → IsBelow n r
below_content n (Length required len source layer) c = absurd c
below_content n (UnsupportedPacketType p) c = tt
below_content n (UnsupportedHardwareType t) c = tt
below_content n UnexpectedVersion c = tt
below_content n InvalidShortLen c = tt

-- ---- extensions

-- the walk of an extension ends alike, if the required length is still not there
pub kept : (start : Expectation) (list more : List ℕ) (hs ks : List Header) (e f : Ending) → has_fcs start ≡ false
    → Walk start list hs e → Walk start (list ++ more) ks f → StaysShort list more e
    → EndsAlike hs e ks f × (u : Window) × (ending_in more u e ≡ f)
kept start list more hs ks e f h s t short =
    let c = carry_walk start list more hs e h s short in
    let one = one_stack (list ++ more) start (whole start (list ++ more)) hs ks (ending_in more c.last e) f c.stack t in
    let at = c.start in
    let alike = alike_in list (list ++ more) more hs e c.last c.carries (omega arith) in
    (subst (λ (l : List Header). EndsAlike hs e l f) one.0 (subst (EndsAlike hs e hs) one.1 alike), c.last, one.1)

kept_refused : (start : Expectation) (list more : List ℕ) (hs ks : List Header) (e f : Ending) (r q : Refusal)
    → has_fcs start ≡ false → Walk start list hs e → Walk start (list ++ more) ks f → refusal_of e ≡ Some r
    → IsBelow (length (within list (last_window e)) + length (beyond (last_window e).closed more)) r
    → longer (length (beyond (last_window e).closed more)) r ≡ q → EndsAlike hs e ks f × (refusal_of f ≡ Some q)
kept_refused start list more hs ks e f r q h s t k below same =
    let m = kept start list more hs ks e f h s t (short_refused list more e r k below) in
    (m.0, sym (ap refusal_of m.2) ∙ refused_in more m.1 e r k ∙ ap Some same)

settled_stays : (start : Expectation) (list more : List ℕ) (hs ks : List Header) (e f : Ending) (r : Refusal)
    → has_fcs start ≡ false → Walk start list hs e → Walk start (list ++ more) ks f → refusal_of e ≡ Some r
    → IsContent r ⊎ ((last_window e).closed ≡ true) → EndsAlike hs e ks f × (refusal_of f ≡ Some r)
settled_stays start list more hs ks e f r h s t k (inl content) =
    kept_refused start list more hs ks e f r r h s t k (below_content _ r content) (longer_content _ r content)
settled_stays start list more hs ks e f r h s t k (inr closed) =
    let nothing : length (beyond (last_window e).closed more) ≡ 0 = ap (λ (c : Bool). length (beyond c more)) closed in
    let b = refusal_below list e r (leads list start (whole start list) hs e s).1 k in
    let a : length (within list (last_window e))
    ≡ length (within list (last_window e)) + length (beyond (last_window e).closed more) =
    omega arith in
    kept_refused start list more hs ks e f r r h s t k (subst (λ (n : ℕ). IsBelow n r) a b)
    (ap (λ (n : ℕ). longer n r) nothing ∙ longer_zero r)

waiting_stays : (start : Expectation) (list more : List ℕ) (hs ks : List Header) (e f : Ending) → has_fcs start ≡ false
    → Walk start list hs e → Walk start (list ++ more) ks f → (o : OpenRefusal e)
    → length (list ++ more) < named_len e o
    → EndsAlike hs e ks f × (refusal_of f ≡ Some (Length o.required (o.len + length more) o.source o.layer))
waiting_stays start list more hs ks e f h s t o lt =
    let v = last_window e in
    let g = walk_open_to_end start list hs e h s in
    let few : length (beyond v.closed more) ≡ length more = ap (λ (c : Bool). length (beyond c more)) o.is_open in
    let finish = g.ends o.is_open in
    let at = g.is_in.ordered in
    let part = length-part list v.start v.finish g.is_in.inside in
    let r = Length o.required o.len o.source o.layer in
    kept_refused start list more hs ks e f r (Length o.required (o.len + length more) o.source o.layer) h s t o.refused
    (omega (arith, length-append list more)) (ap (λ (n : ℕ). longer n r) few)

pub extensions_keep : ExtensionsKeep
extensions_keep start list hs e h s more ks f t = record {
  accepted =
      λ k. let m =
      kept start list more hs ks e f h s t (short_accepted list more e k)
      in (m.0, sym (ap refusal_of m.2) ∙ accepted_in more m.1 e k);
  settled = λ r k either. settled_stays start list more hs ks e f r h s t k either;
  waiting = λ o lt. waiting_stays start list more hs ks e f h s t o lt;
}

-- ---- no open refusal with a frame check sequence

stays_closed_from : (c : Bool) (o : Option ℕ) → c ≡ true → payload_closed c o ≡ true
stays_closed_from c None e = e
stays_closed_from c (Some n) e = refl

stays_closed : (list : List ℕ) (x : Expectation) (w : Window) (hs : List Header) (y : Expectation) (v : Window)
    → w.closed ≡ true → Leads list x w hs y v → v.closed ≡ true
stays_closed list x w [] y v e l = ap (λ (u : Window). u.closed) l.1 ∙ e
stays_closed list x w (h ∷ hs) y v e l =
    stays_closed list (after x h) (payload w h) hs y v (stays_closed_from w.closed (payload_len h) e) l.1

pub fcs_is_closed : (start : Expectation) (list : List ℕ) (hs : List Header) (e : Ending) → has_fcs start ≡ true
    → Walk start list hs e → OpenRefusal e → ⊥
fcs_is_closed start list hs e h s o =
    let closed =
    stays_closed list start (whole start list) hs (last_expected e) (last_window e) h
    (leads list start (whole start list) hs e s).0 in
    let f : true ≡ false = sym closed ∙ o.is_open in
    cc

no_fcs_from : (start : Expectation) (list : List ℕ) (hs : List Header) (e : Ending) (c : Bool) → has_fcs start ≡ c
    → Walk start list hs e → OpenRefusal e → has_fcs start ≡ false
no_fcs_from start list hs e true h s o = absurd (fcs_is_closed start list hs e h s o)
no_fcs_from start list hs e false h s o = h

-- if there is one, no frame check sequence is expected
pub no_fcs : (start : Expectation) (list : List ℕ) (hs : List Header) (e : Ending) → Walk start list hs e
    → OpenRefusal e → has_fcs start ≡ false
no_fcs start list hs e s o = no_fcs_from start list hs e (has_fcs start) refl s o
