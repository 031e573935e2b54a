-- What the cuts of a list keep of its walk.
use Rattle.std.proofs.Common.{◌≡◌, ℕ, ◌+◌, ◌<◌, ◌≤◌, List, [], ◌∷◌, ◌++◌, length, take, drop, refl, sym, ap, subst, ◌∙◌, arith, inl, inr, Bool, true, false}
use Rattle.std.specs.Prelude.{Option, Some, None, unwrap_or}
use Rattle.std.proofs.lemmas.Bool.{cases_lt}
use Rattle.std.proofs.lemmas.List.{length-take, take-append-drop}
use Rattle.etherparse.specs.Types.LenSource.{LenSource}
use Rattle.etherparse.specs.Types.Layer.{Layer}
use Rattle.etherparse.specs.Bytes.{IsBytes}
use Rattle.etherparse.specs.Macsec.{sec_tag_len, known_payload_len, sec_tag_front_of}
use Rattle.etherparse.specs.Arp.{arp_len, arp_front_of}
use Rattle.etherparse.specs.Kind.{Kind}
use Rattle.etherparse.specs.Kind as kinds
use Rattle.etherparse.specs.Header.{Header, kind_of, header_len, unit_len, Means}
use Rattle.etherparse.specs.Header as headers
use Rattle.etherparse.specs.Refusal.{Refusal, Length, UnsupportedPacketType, UnsupportedHardwareType, UnexpectedVersion, InvalidShortLen, Refuses}
use Rattle.etherparse.specs.Refusal as rows
use Rattle.etherparse.proofs.SubLists.{length-part}
use Rattle.etherparse.proofs.Rows.{one_sec_tag_front, one_arp_front, row_short}
use Rattle.etherparse.proofs.Means.{tag_begins, arp_begins}
use Rattle.ether_peel.specs.Grammar.Window.{Window, within}
use Rattle.ether_peel.specs.Grammar.Expectation.{Expectation, has_fcs}
use Rattle.ether_peel.specs.Grammar.Stack.{Ending, Accepted, Fault, last_window, last_expected, Stack, whole, Walk}
use Rattle.ether_peel.specs.Grammar.Places.{place}
use Rattle.ether_peel.specs.Grammar.Endings.{refusal_of, EndsAlike}
use Rattle.ether_peel.specs.Grammar.Cuts.{reach, EndsInUnit, KeepsCut, CutsKeep}
use Rattle.ether_peel.proofs.Grammar.LongerBytes.{sec_tag_longer, arp_longer}
use Rattle.ether_peel.proofs.Grammar.Stacks.{some_stack, one_stack}
use Rattle.ether_peel.proofs.Grammar.Carrying.{leads, led, beyond, Carries, carry, StaysShort}
use Rattle.ether_peel.proofs.Grammar.Places.{leads_after}
use Rattle.ether_peel.proofs.Grammar.Cleared.{whole_in}
use Rattle.ether_peel.proofs.Grammar.Extensions.{no_fcs_start, carries_whole, walk_open_to_end, kept}

-- ---- units and places

pub reach_least : (at : ℕ) (hs later : List Header) (h : Header) → place at hs + unit_len h ≤ reach at (hs ++ h ∷ later)
reach_least at [] later h = omega arith
reach_least at (g ∷ hs) later h = let r = reach_least (at + header_len g) hs later h in omega arith

-- a required length is no more than the unit's that is there once there are enough bytes
required_within : (bound source : LenSource) (bytes more : List ℕ) (kind : Kind) (required len : ℕ) (layer : Layer)
    (h : Header)
    → Refuses bound bytes kind (Length required len source layer) → Means (bytes ++ more) h → kind ≡ kind_of h
    → (kind ≡ kinds.Ethernet2Fcs → ⊥) → required ≤ unit_len h
required_within bound source bytes more kinds.Ethernet2 required len layer (headers.Ethernet2 e) (rows.ethernet2 lt) m k
    free =
    omega arith
required_within bound source bytes more kinds.Ethernet2Fcs required len layer h (rows.ethernet2_fcs lt) m k free =
    absurd (free refl)
required_within bound source bytes more kinds.LinuxSll required len layer (headers.LinuxSll s) (rows.linux_sll lt) m k
    free =
    omega arith
required_within bound source bytes more kinds.Vlan required len layer (headers.Vlan v) (rows.vlan lt) m k free =
    omega arith
required_within bound source bytes more kinds.Macsec required len layer (headers.Macsec u) (rows.macsec lt) m k free =
    omega arith
required_within bound source bytes more kinds.Macsec required len layer (headers.Macsec u)
    (rows.macsec_header t six b v s lt) m k free =
    let a = tag_begins (bytes ++ more) u m in
    let e =
    ap sec_tag_len
    (one_sec_tag_front (bytes ++ more) t (sec_tag_front_of a.0 a.1 u)
    (sec_tag_longer bytes more t (omega arith) b) a.2) in
    omega arith
required_within bound source bytes more kinds.Macsec required len layer (headers.Macsec u)
    (rows.macsec_packet t p b v e le lt) m k free =
    let a = tag_begins (bytes ++ more) u m in
    let same =
    one_sec_tag_front (bytes ++ more) t (sec_tag_front_of a.0 a.1 u)
    (sec_tag_longer bytes more t (omega arith) b) a.2 in
    let n = ap sec_tag_len same in
    let known : known_payload_len (sec_tag_front_of 0 0 u) ≡ Some p = ap known_payload_len (sym same) ∙ e in
    let payload : unwrap_or (known_payload_len (sec_tag_front_of 0 0 u)) 0 ≡ p =
    ap (λ (o : Option ℕ). unwrap_or o 0) known in
    omega arith
required_within bound source bytes more kinds.Arp required len layer (headers.Arp u) (rows.arp lt) m k free =
    omega arith
required_within bound source bytes more kinds.Arp required len layer (headers.Arp u) (rows.arp_addresses a le b lt) m k
    free =
    let e =
    ap arp_len
    (one_arp_front (bytes ++ more) a (arp_front_of u) (arp_longer bytes more a le b)
    (arp_begins (bytes ++ more) u m)) in
    omega arith
required_within bound source bytes more _ required len layer _ _ m k free = absurd cc

-- ---- what a cut and the whole have in common

-- the cut's headers lead on in the whole list, and what follows there makes up the whole's walk
pub record Common (cut more : List ℕ) (hs : List Header) (e : Ending) (ks : List Header) (f : Ending) : Type 0 where
  pub last : Window
  pub start : last.start ≡ (last_window f).start
  pub carries : Carries cut (cut ++ more) more (last_window f) last
  pub rest : List Header
  pub headers : hs ≡ ks ++ rest
  pub follows : Stack (cut ++ more) (last_expected f) last rest e

pub common : (start : Expectation) (cut more : List ℕ) (hs ks : List Header) (e f : Ending) → IsBytes (cut ++ more)
    → has_fcs start ≡ false → Walk start (cut ++ more) hs e → Walk start cut ks f → Common cut more hs e ks f
common start cut more hs ks e f ok h t s =
    let list = cut ++ more in
    let m =
    carry cut list more start (whole start cut) (whole start list) ks (last_expected f) (last_window f)
    (carries_whole start cut more h) (inr (no_fcs_start start h))
    (leads cut start (whole start cut) ks f s).0 in
    let rest = some_stack list (last_expected f) m.last ok in
    let all = led list start (whole start list) ks rest.0 (last_expected f) m.last rest.1 m.leads rest.2 in
    let one = one_stack list start (whole start list) hs (ks ++ rest.0) e rest.1 t all in
    let at = m.start in
    record {
      last = m.last;
      start = omega arith;
      carries = m.carries;
      rest = rest.0;
      headers = one.0;
      follows = subst (Stack list (last_expected f) m.last rest.0) (sym one.1) rest.2;
    }

-- ---- a cut of an accepted list

open_of : (closed : Bool) (more : List ℕ) → 0 < length (beyond closed more) → closed ≡ false
open_of true more lt = absurd (omega arith)
open_of false more lt = refl

-- that is refused, before a unit of the whole, for a length which is there in the whole
pub wants_unit : (start : Expectation) (cut more : List ℕ) (hs ks : List Header) (v : Window) (y : Expectation)
    (required len : ℕ) (source : LenSource) (layer : Layer) (unit : Header) (later : List Header) (last : Window)
    (e : Ending)
    → has_fcs start ≡ false
    → Walk start cut ks (Fault v y (Length required len source layer)) → Carries cut (cut ++ more) more v last
    → hs ≡ ks ++ unit ∷ later → Stack (cut ++ more) y last (unit ∷ later) e
    → required ≤ length (within cut v) + length (beyond v.closed more)
    → EndsInUnit (length cut) hs ks (Fault v y (Length required len source layer))
wants_unit start cut more hs ks v y required len source layer unit later last e h s c parts t long =
    let f = Fault v y (Length required len source layer) in
    let l = leads cut start (whole start cut) ks f s in
    let kind = l.1.2 in
    let row = l.1.4 in
    let o = walk_open_to_end start cut ks f h s in
    let b = leads_after cut start (whole start cut) ks y v (whole_in start cut) l.0 in
    let both : Some kind ≡ Some (kind_of unit) = sym l.1.3 ∙ t.0.announced in
    let same : kind ≡ kind_of unit = cc in
    let means : Means (within cut v ++ beyond v.closed more) unit =
    subst (λ (l : List ℕ). Means l unit) c.bytes t.0.means in
    let enough : required ≤ unit_len unit =
    required_within v.bound source (within cut v) (beyond v.closed more) kind required len layer unit row means
    same (λ k. o.free (l.1.3 ∙ ap Some k)) in
    let few = row_short v.bound source (within cut v) kind required len layer row in
    let n = few.0 in
    let lt = few.1 in
    let is_open = open_of v.closed more (omega arith) in
    let finish = o.ends is_open in
    let ordered = b.ordered in
    let part = length-part cut v.start v.finish o.is_in.inside in
    let before = o.reaches in
    let here = b.start in
    record {
      unit = unit;
      later = later;
      units = parts;
      before = omega arith;
      past = omega arith;
      refusal =
          record { required = required; len = len; source = source; layer = layer; refused = refl; is_open = is_open };
      start = here;
      above = omega arith;
      at_most = omega arith;
    }

-- so it is in an accepted list
wants : (start : Expectation) (cut more : List ℕ) (hs ks : List Header) (v : Window) (y : Expectation)
    (required len : ℕ) (source : LenSource) (layer : Layer) (rest : List Header) (last u : Window) (z : Expectation)
    → has_fcs start ≡ false
    → Walk start cut ks (Fault v y (Length required len source layer)) → Carries cut (cut ++ more) more v last
    → hs ≡ ks ++ rest → Stack (cut ++ more) y last rest (Accepted u z)
    → required ≤ length (within cut v) + length (beyond v.closed more)
    → EndsInUnit (length cut) hs ks (Fault v y (Length required len source layer))
wants start cut more hs ks v y required len source layer [] last u z h s c parts t long =
    let end = (leads cut start (whole start cut) ks (Fault v y (Length required len source layer)) s).1 in
    let e : None ≡ Some end.2 = sym t.2 ∙ end.3 in
    absurd cc
wants start cut more hs ks v y required len source layer (unit ∷ later) last u z h s c parts t long =
    wants_unit start cut more hs ks v y required len source layer unit later last (Accepted u z) h s c parts t long

-- it is not refused in a way that stays
not_for_good : (start : Expectation) (cut more : List ℕ) (hs ks : List Header) (v : Window) (y : Expectation)
    (r : Refusal) (u : Window) (z : Expectation)
    → has_fcs start ≡ false
    → Walk start (cut ++ more) hs (Accepted u z) → Walk start cut ks (Fault v y r) → StaysShort cut more (Fault v y r)
    → ⊥
not_for_good start cut more hs ks v y r u z h t s short =
    let e = ap refusal_of (kept start cut more ks hs (Fault v y r) (Accepted u z) h s t short).2 in cc

in_unit : (start : Expectation) (cut more : List ℕ) (hs ks : List Header) (v : Window) (y : Expectation) (r : Refusal)
    (u : Window) (z : Expectation)
    → has_fcs start ≡ false
    → Walk start (cut ++ more) hs (Accepted u z) → Walk start cut ks (Fault v y r)
    → Common cut more hs (Accepted u z) ks (Fault v y r) → EndsInUnit (length cut) hs ks (Fault v y r)
in_unit start cut more hs ks v y (Length required len source layer) u z h t s c =
    elim (cases_lt (length (within cut v) + length (beyond v.closed more)) required) [
      | inl lt ↦ absurd (not_for_good start cut more hs ks v y (Length required len source layer) u z h t s lt)
      | inr le ↦ wants start cut more hs ks v y required len source layer c.rest c.last u z h s c.carries c.headers
          c.follows le
    ]
in_unit start cut more hs ks v y (UnsupportedPacketType p) u z h t s c =
    absurd (not_for_good start cut more hs ks v y (UnsupportedPacketType p) u z h t s tt)
in_unit start cut more hs ks v y (UnsupportedHardwareType n) u z h t s c =
    absurd (not_for_good start cut more hs ks v y (UnsupportedHardwareType n) u z h t s tt)
in_unit start cut more hs ks v y UnexpectedVersion u z h t s c =
    absurd (not_for_good start cut more hs ks v y UnexpectedVersion u z h t s tt)
in_unit start cut more hs ks v y InvalidShortLen u z h t s c =
    absurd (not_for_good start cut more hs ks v y InvalidShortLen u z h t s tt)

turned : (hs ks : List Header) (e f : Ending) → EndsAlike ks f hs e → EndsAlike hs e ks f
turned hs ks e f a = record {
  headers = sym a.headers;
  start = sym a.start;
  closed = sym a.closed;
  expected = sym a.expected;
}

-- the two clauses on accepted lists
record KeepsAccepted (n : ℕ) (hs : List Header) (e : Ending) (ks : List Header) (f : Ending) : Type 0 where
  pub whole_units : reach 0 hs ≤ n → EndsAlike hs e ks f × (refusal_of f ≡ None)
  pub in_unit : n < reach 0 hs → EndsInUnit n hs ks f

keeps_accepted : (start : Expectation) (cut more : List ℕ) (hs ks : List Header) (e f : Ending) → has_fcs start ≡ false
    → Walk start (cut ++ more) hs e → Walk start cut ks f → Common cut more hs e ks f → refusal_of e ≡ None
    → KeepsAccepted (length cut) hs e ks f
keeps_accepted start cut more hs ks (Fault u z q) f h t s c a = absurd cc
keeps_accepted start cut more hs ks (Accepted u z) (Accepted v y) h t s c a =
    let k = kept start cut more ks hs (Accepted v y) (Accepted u z) h s t tt in
    let o = (walk_open_to_end start cut ks (Accepted v y) h s).reaches in
    let r : reach 0 hs ≤ length cut = subst (λ (l : List Header). reach 0 l ≤ length cut) (sym k.0.headers) o in
    record {
      whole_units = λ le. (turned hs ks (Accepted u z) (Accepted v y) k.0, refl);
      in_unit = λ lt. absurd (omega arith);
    }
keeps_accepted start cut more hs ks (Accepted u z) (Fault v y r) h t s c a =
    let d = in_unit start cut more hs ks v y r u z h t s c in
    let past = d.past in
    let l = reach_least 0 ks d.later d.unit in
    let m : length cut < reach 0 hs = subst (λ (l : List Header). length cut < reach 0 l) (sym d.units) (omega arith) in
    record { whole_units = λ le. absurd (omega arith); in_unit = λ lt. d }

cut_keeps : (start : Expectation) (cut more : List ℕ) (hs ks : List Header) (e f : Ending) → IsBytes (cut ++ more)
    → has_fcs start ≡ false → Walk start (cut ++ more) hs e → Walk start cut ks f → KeepsCut hs e (length cut) ks f
cut_keeps start cut more hs ks e f ok h t s =
    let c = common start cut more hs ks e f ok h t s in
    record {
      front = (c.rest, c.headers);
      whole_units = λ a. (keeps_accepted start cut more hs ks e f h t s c a).whole_units;
      in_unit = λ a. (keeps_accepted start cut more hs ks e f h t s c a).in_unit;
    }

pub cuts_keep : CutsKeep
cuts_keep start list hs e ok h t n ks f le s =
    let join : list ≡ take n list ++ drop n list = sym (take-append-drop n list) in
    let len : length (take n list) ≡ n = omega (arith, length-take n list) in
    subst (λ (k : ℕ). KeepsCut hs e k ks f) len
    (cut_keeps start (take n list) (drop n list) hs ks e f (subst IsBytes join ok) h
    (subst (λ (l : List ℕ). Walk start l hs e) join t) s)
