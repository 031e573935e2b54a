-- A stack carried from a window of one list to a window of another that has the same bytes or, if it is open, more
-- after them.
use Rattle.std.proofs.Common.{◌≡◌, ℕ, ◌+◌, ◌-◌, ◌≤◌, List, [], ◌∷◌, ◌++◌, length, drop, refl, sym, ap, subst, ◌∙◌, arith, inl, inr, ◌⊎◌, Bool, true, false, cond}
use Rattle.std.specs.Prelude.{slice_range, Option, Some, None, unwrap_or, nat_eq, ◌==◌, if◌then◌else◌}
use Rattle.std.proofs.lemmas.List.{append-nil, length-append, drop-append-le}
use Rattle.etherparse.specs.Types.LenSource.{LenSource}
use Rattle.etherparse.specs.Types.LinuxSllProtocolType.{LinuxSllProtocolType}
use Rattle.etherparse.specs.LinuxSllProtocolType.{link_protocol_of}
use Rattle.etherparse.specs.Vlan.{is_vlan_ether_type}
use Rattle.etherparse.specs.Macsec.{PayloadType}
use Rattle.etherparse.specs.Macsec as payloads
use Rattle.etherparse.specs.Kind.{Kind}
use Rattle.etherparse.specs.Kind as kinds
use Rattle.etherparse.specs.Header.{Header, kind_of, header_len, payload_len, trailer_len, Means}
use Rattle.etherparse.specs.Header as headers
use Rattle.etherparse.specs.Refusal.{Refusal, Length, UnsupportedPacketType, UnsupportedHardwareType, UnexpectedVersion, InvalidShortLen, Refuses, Accepts}
use Rattle.etherparse.proofs.SubLists.{length-part, part-append, part_of_part, rest_of_part}
use Rattle.etherparse.proofs.Rows.{row_short}
use Rattle.etherparse.proofs.Means.{unit_fits}
use Rattle.ether_peel.specs.Grammar.Window.{Window, within, IsIn, payload}
use Rattle.ether_peel.proofs.Grammar.Windows.{payload_from, payload_from_in}
use Rattle.ether_peel.specs.Grammar.Expectation.{Expectation, announced_by, announced, announced_next, next_after, Next, EtherType, Sll, after_payload, after}
use Rattle.ether_peel.proofs.Grammar.Announced.{announced_is}
use Rattle.ether_peel.specs.Grammar.Stack.{Ending, Accepted, Fault, last_window, last_expected, IsUnit, Stack}
use Rattle.ether_peel.proofs.Grammar.LongerBytes.{means_longer, accepts_longer, refuses_longer, longer, IsBelow}

-- ---- from an expectation and a window to later ones

abbrev pub Leads : List ℕ → Expectation → Window → List Header → Expectation → Window → Type 0
Leads list x w [] y v = (y ≡ x) × (v ≡ w)
Leads list x w (h ∷ hs) y v = IsUnit list x w h × Leads list (after x h) (payload w h) hs y v

-- a stack leads to its last window, where nothing more is found
pub leads : (list : List ℕ) (x : Expectation) (w : Window) (hs : List Header) (e : Ending) → Stack list x w hs e
    → Leads list x w hs (last_expected e) (last_window e) × Stack list (last_expected e) (last_window e) [] e
leads list x w [] (Accepted v y) s =
    ((s.1, s.0), (refl, refl, subst (λ (z : Expectation). announced z ≡ None) (sym s.1) s.2))
leads list x w [] (Fault v y r) s = (
  (s.1, s.0),
  (
    refl,
    refl,
    s.2,
    subst (λ (z : Expectation). announced z ≡ Some s.2) (sym s.1) s.3,
    subst (λ (u : Window). Refuses u.bound (within list u) s.2 r) (sym s.0) s.4,
  ),
)
leads list x w (h ∷ hs) e s = let rest = leads list (after x h) (payload w h) hs e s.1 in ((s.0, rest.0), rest.1)

-- and what is found in a later window follows
pub led : (list : List ℕ) (x : Expectation) (w : Window) (hs ks : List Header) (y : Expectation) (v : Window)
    (e : Ending)
    → Leads list x w hs y v → Stack list y v ks e → Stack list x w (hs ++ ks) e
led list x w [] ks y v e l s =
    subst (λ (z : Expectation). Stack list z w ks e) l.0 (subst (λ (u : Window). Stack list y u ks e) l.1 s)
led list x w (h ∷ hs) ks y v e l s = (l.0, led list (after x h) (payload w h) hs ks y v e l.1 s)

-- ---- windows

-- of bytes that come after the list, those that come after the window's
abbrev pub beyond : Bool → List ℕ → List ℕ
beyond true more = []
beyond false more = more

-- a window of another list has the window's mark, bound and bytes, and after them those that come there
pub record Carries (list other more : List ℕ) (w v : Window) : Type 0 where
  pub old : IsIn list w
  pub new : IsIn other v
  pub closed : v.closed ≡ w.closed
  pub bound : v.bound ≡ w.bound
  pub bytes : within other v ≡ within list w ++ beyond w.closed more

-- the other window ends as much later as there come bytes
pub carried_finish : (list other more : List ℕ) (w v : Window) → Carries list other more w v
    → v.finish + w.start ≡ w.finish + v.start + length (beyond w.closed more)
carried_finish list other more w v c =
    let a = length-part list w.start w.finish c.old.inside in
    let b = length-part other v.start v.finish c.new.inside in
    let e : length (within other v) ≡ length (within list w) + length (beyond w.closed more) =
    ap length c.bytes ∙ length-append (within list w) (beyond w.closed more) in
    let d = c.old.ordered in
    let f = c.new.ordered in
    omega arith

-- a part that ends in the window
carried_part : (list other more : List ℕ) (w v : Window) (i j : ℕ) → Carries list other more w v → i ≤ j
    → j ≤ length (within list w)
    → slice_range other (v.start + i) (v.start + j) ≡ slice_range list (w.start + i) (w.start + j)
carried_part list other more w v i j c ij le =
    let a = length-part list w.start w.finish c.old.inside in
    let f = carried_finish list other more w v c in
    let d = c.old.ordered in
    sym (part_of_part other v.start v.finish i j ij (omega arith)) ∙ ap (λ (l : List ℕ). slice_range l i j) c.bytes
    ∙ part-append (within list w) (beyond w.closed more) i j ij le
    ∙ part_of_part list w.start w.finish i j ij (omega arith)

-- the window's end
carried_rest : (list other more : List ℕ) (w v : Window) (n : ℕ) → Carries list other more w v
    → n ≤ length (within list w)
    → slice_range other (v.start + n) v.finish ≡ slice_range list (w.start + n) w.finish ++ beyond w.closed more
carried_rest list other more w v n c le =
    let a = length-part list w.start w.finish c.old.inside in
    let f = carried_finish list other more w v c in
    let d = c.old.ordered in
    sym (rest_of_part other v.start v.finish n (omega arith)) ∙ ap (drop n) c.bytes
    ∙ drop-append-le n (within list w) (beyond w.closed more) le
    ∙ ap (λ (l : List ℕ). l ++ beyond w.closed more) (rest_of_part list w.start w.finish n (omega arith))

carries_payload_from : (list other more : List ℕ) (w v : Window) (n trailer : ℕ) (o : Option ℕ)
    → Carries list other more w v → n + unwrap_or o 0 + trailer ≤ length (within list w)
    → (trailer ≡ 0) ⊎ (beyond w.closed more ≡ [])
    → Carries list other more (payload_from (w.start + n) trailer o w) (payload_from (v.start + n) trailer o v)
carries_payload_from list other more w v n trailer None c fits (inl none) =
    let a : w.finish - trailer ≡ w.finish = omega arith in
    let b : v.finish - trailer ≡ v.finish = omega arith in
    let e : length (within other v) ≡ length (within list w) + length (beyond w.closed more) =
    ap length c.bytes ∙ length-append (within list w) (beyond w.closed more) in
    record {
      old = payload_from_in list w n trailer None c.old fits;
      new = payload_from_in other v n trailer None c.new (omega arith);
      closed = c.closed;
      bound = c.bound;
      bytes =
          ap (slice_range other (v.start + n)) b ∙ carried_rest list other more w v n c (omega arith)
          ∙ ap (λ (s : ℕ). slice_range list (w.start + n) s ++ beyond w.closed more) (sym a);
    }
carries_payload_from list other more w v n trailer None c fits (inr none) =
    let len = length-part list w.start w.finish c.old.inside in
    let f = carried_finish list other more w v c in
    let d = c.old.ordered in
    let g : length (beyond w.closed more) ≡ 0 = ap length none in
    let e : length (within other v) ≡ length (within list w) + length (beyond w.closed more) =
    ap length c.bytes ∙ length-append (within list w) (beyond w.closed more) in
    let j = w.finish - trailer - w.start in
    let a : w.finish - trailer ≡ w.start + j = omega arith in
    let b : v.finish - trailer ≡ v.start + j = omega arith in
    record {
      old = payload_from_in list w n trailer None c.old fits;
      new = payload_from_in other v n trailer None c.new (omega arith);
      closed = c.closed;
      bound = c.bound;
      bytes =
          ap (slice_range other (v.start + n)) b ∙ carried_part list other more w v n j c (omega arith) (omega arith)
          ∙ ap (slice_range list (w.start + n)) (sym a)
          ∙ sym (append-nil _)
          ∙ ap (λ (l : List ℕ). slice_range list (w.start + n) (w.finish - trailer) ++ l) (sym none);
    }
carries_payload_from list other more w v n trailer (Some p) c fits either =
    let e : length (within other v) ≡ length (within list w) + length (beyond w.closed more) =
    ap length c.bytes ∙ length-append (within list w) (beyond w.closed more) in
    let a : w.start + n + p ≡ w.start + (n + p) = omega arith in
    let b : v.start + n + p ≡ v.start + (n + p) = omega arith in
    record {
      old = payload_from_in list w n trailer (Some p) c.old fits;
      new = payload_from_in other v n trailer (Some p) c.new (omega arith);
      closed = refl;
      bound = refl;
      bytes =
          ap (slice_range other (v.start + n)) b
          ∙ carried_part list other more w v n (n + p) c (omega arith) (omega arith)
          ∙ ap (slice_range list (w.start + n)) (sym a) ∙ sym (append-nil _);
    }

-- ---- frame check sequences: bytes after the list would move one

abbrev pub NoFcs : Expectation → Type 0
NoFcs x = announced x ≡ Some kinds.Ethernet2Fcs → ⊥

no_fcs_cond : (a b c : Bool)
    → cond a (Some kinds.Vlan) (cond b (Some kinds.Macsec) (cond c (Some kinds.Arp) None)) ≡ Some kinds.Ethernet2Fcs → ⊥
no_fcs_cond true b c e = cc
no_fcs_cond false true c e = cc
no_fcs_cond false false true e = cc
no_fcs_cond false false false e = cc

pub no_fcs_announced : (t : ℕ) → announced_by t ≡ Some kinds.Ethernet2Fcs → ⊥
no_fcs_announced t e = no_fcs_cond (is_vlan_ether_type t) (nat_eq t 0x88E5) (nat_eq t 0x0806) e

-- nor does this announce one without a limit
abbrev pub NextNoFcs : Next → Type 0
NextNoFcs y = announced_next y ≡ Some kinds.Ethernet2Fcs → ⊥

no_fcs_capture : (is_ethernet : Bool) (n : ℕ) (q : LinuxSllProtocolType)
    → NextNoFcs (if is_ethernet then EtherType n else Sll q)
no_fcs_capture true n q e = no_fcs_announced n e
no_fcs_capture false n q e = cc

no_fcs_payload : (p : PayloadType) → NextNoFcs (after_payload p)
no_fcs_payload (payloads.Unmodified t) e = no_fcs_announced t e
no_fcs_payload payloads.Modified e = cc
no_fcs_payload payloads.EncryptedUnmodified e = cc
no_fcs_payload payloads.Encrypted e = cc

no_fcs_next : (h : Header) → NextNoFcs (next_after h)
no_fcs_next (headers.Ethernet2 a) e = no_fcs_announced a.ether_type e
no_fcs_next (headers.Ethernet2Fcs a) e = no_fcs_announced a.ether_type e
no_fcs_next (headers.LinuxSll s) e =
    no_fcs_capture (s.hardware_type == 1) s.protocol (link_protocol_of s.hardware_type s.protocol) e
no_fcs_next (headers.Vlan v) e = no_fcs_announced v.ether_type e
no_fcs_next (headers.Macsec t) e = no_fcs_payload t.payload_type e
no_fcs_next (headers.Arp a) e = cc

-- no unit announces one that ends in a frame check sequence
pub no_fcs_after : (x : Expectation) (h : Header) → NoFcs (after x h)
no_fcs_after x h e = no_fcs_next h (announced_is (after x h) kinds.Ethernet2Fcs e)

pub no_trailer : (h : Header) → (kind_of h ≡ kinds.Ethernet2Fcs → ⊥) → trailer_len h ≡ 0
no_trailer (headers.Ethernet2 a) free = refl
no_trailer (headers.Ethernet2Fcs a) free = absurd (free refl)
no_trailer (headers.LinuxSll s) free = refl
no_trailer (headers.Vlan v) free = refl
no_trailer (headers.Macsec t) free = refl
no_trailer (headers.Arp a) free = refl

-- either nothing comes after the window's bytes, or no frame check sequence is expected
abbrev pub KeepsFcs : Expectation → Bool → List ℕ → Type 0
KeepsFcs x closed more = (beyond closed more ≡ []) ⊎ NoFcs x

trailer_stays : (x : Expectation) (closed : Bool) (more : List ℕ) (h : Header) → announced x ≡ Some (kind_of h)
    → KeepsFcs x closed more → (trailer_len h ≡ 0) ⊎ (beyond closed more ≡ [])
trailer_stays x closed more h e (inl nothing) = inr nothing
trailer_stays x closed more h e (inr free) = inl (no_trailer h (λ k. free (e ∙ ap Some k)))

-- ---- stacks

pub carry_unit : (list other more : List ℕ) (x : Expectation) (w v : Window) (h : Header) → Carries list other more w v
    → KeepsFcs x w.closed more → IsUnit list x w h
    → IsUnit other x v h × Carries list other more (payload w h) (payload v h)
carry_unit list other more x w v h c keeps u = (
  record {
    announced = u.announced;
    accepted =
        subst (λ (b : List ℕ). Accepts v.bound b (kind_of h)) (sym c.bytes)
        (subst (λ (o : LenSource). Accepts o (within list w ++ beyond w.closed more) (kind_of h)) (sym c.bound)
        (accepts_longer w.bound (within list w) (beyond w.closed more) (kind_of h) u.accepted));
    means =
        subst (λ (b : List ℕ). Means b h) (sym c.bytes) (means_longer (within list w) (beyond w.closed more) h u.means);
  },
  carries_payload_from list other more w v (header_len h) (trailer_len h) (payload_len h) c
      (unit_fits w.bound (within list w) h u.accepted u.means) (trailer_stays x w.closed more h u.announced keeps),
)

-- the same headers lead to a window of the other list
pub record Carried (list other more : List ℕ) (x : Expectation) (w v : Window) (hs : List Header)
    (y : Expectation) (u : Window) : Type 0 where
  pub last : Window
  pub leads : Leads other x v hs y last
  pub carries : Carries list other more u last
  pub start : last.start + w.start ≡ u.start + v.start

pub carry : (list other more : List ℕ) (x : Expectation) (w v : Window) (hs : List Header) (y : Expectation)
    (u : Window)
    → Carries list other more w v → KeepsFcs x w.closed more → Leads list x w hs y u
    → Carried list other more x w v hs y u
carry list other more x w v [] y u c keeps l = record {
  last = v;
  leads = (l.0, refl);
  carries = subst (λ (k : Window). Carries list other more k v) (sym l.1) c;
  start = let e : u.start ≡ w.start = ap (λ (k : Window). k.start) l.1 in omega arith;
}
carry list other more x w v (h ∷ hs) y u c keeps l =
    let one = carry_unit list other more x w v h c keeps l.0 in
    let rest =
    carry list other more (after x h) (payload w h) (payload v h) hs y u one.1 (inr (no_fcs_after x h)) l.1 in
    let s = rest.start in
    record { last = rest.last; leads = (one.0, rest.leads); carries = rest.carries; start = omega arith }

-- the required length, if a length is refused, is still not there
abbrev pub StaysShort : List ℕ → List ℕ → Ending → Type 0
StaysShort list more (Accepted v y) = Unit {0}
StaysShort list more (Fault v y r) = IsBelow (length (within list v) + length (beyond v.closed more)) r

-- the ending in another window, after whose bytes come these
abbrev pub ending_in : List ℕ → Window → Ending → Ending
ending_in more u (Accepted v y) = Accepted u y
ending_in more u (Fault v y r) = Fault u y (longer (length (beyond v.closed more)) r)

carry_end : (list other more : List ℕ) (u : Window) (e : Ending) → Carries list other more (last_window e) u
    → Stack list (last_expected e) (last_window e) [] e → StaysShort list more e
    → Stack other (last_expected e) u [] (ending_in more u e)
carry_end list other more u (Accepted v y) c s short = (refl, refl, s.2)
carry_end list other more u (Fault v y r) c s short = (
  refl,
  refl,
  s.2,
  s.3,
  subst (λ (b : List ℕ). Refuses u.bound b s.2 (longer (length (beyond v.closed more)) r)) (sym c.bytes)
      (subst
      (λ (o : LenSource).
      Refuses o (within list v ++ beyond v.closed more) s.2 (longer (length (beyond v.closed more)) r))
      (sym c.bound) (refuses_longer v.bound (within list v) (beyond v.closed more) s.2 r s.4 short)),
)

-- a whole stack in the other list
pub record CarriedStack (list other more : List ℕ) (x : Expectation) (w v : Window) (hs : List Header)
    (e : Ending) : Type 0 where
  pub last : Window
  pub stack : Stack other x v hs (ending_in more last e)
  pub carries : Carries list other more (last_window e) last
  pub start : last.start + w.start ≡ (last_window e).start + v.start

pub carry_stack : (list other more : List ℕ) (x : Expectation) (w v : Window) (hs : List Header) (e : Ending)
    → Carries list other more w v → KeepsFcs x w.closed more → Stack list x w hs e → StaysShort list more e
    → CarriedStack list other more x w v hs e
carry_stack list other more x w v hs e c keeps s short =
    let l = leads list x w hs e s in
    let m = carry list other more x w v hs (last_expected e) (last_window e) c keeps l.0 in
    let end = carry_end list other more m.last e m.carries l.1 short in
    record {
      last = m.last;
      stack =
          subst (λ (ks : List Header). Stack other x v ks (ending_in more m.last e)) (append-nil hs)
          (led other x v hs [] (last_expected e) m.last (ending_in more m.last e) m.leads end);
      carries = m.carries;
      start = m.start;
    }

-- ---- what is refused

-- a required length is not there
pub refused_below : (bound : LenSource) (bytes : List ℕ) (kind : Kind) (r : Refusal) → Refuses bound bytes kind r
    → IsBelow (length bytes) r
refused_below bound bytes kind (Length required len source layer) row =
    let s = row_short bound source bytes kind required len layer row in let a = s.0 in let b = s.1 in omega arith
refused_below bound bytes kind (UnsupportedPacketType p) row = tt
refused_below bound bytes kind (UnsupportedHardwareType h) row = tt
refused_below bound bytes kind UnexpectedVersion row = tt
refused_below bound bytes kind InvalidShortLen row = tt
