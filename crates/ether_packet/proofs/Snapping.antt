-- The cuts of a list that keep its headers.
use Rattle.std.proofs.Common.{◌≡◌, ℕ, ◌+◌, ◌<◌, ◌≤◌, List, [], ◌∷◌, ◌++◌, length, take, drop, sym, ap, subst, ◌∙◌, arith, inl, inr, false, refl, rules}
use Rattle.std.specs.Prelude.{Some, None}
use Rattle.std.proofs.lemmas.Bool.{cases_lt}
use Rattle.std.proofs.lemmas.List.{append-nil, length-append, length-take, take-append-drop}
use Rattle.etherparse.specs.Bytes.{IsBytes}
use Rattle.etherparse.specs.Header.{Header, kind_of}
use Rattle.etherparse.specs.Refusal.{Refusal, Length}
use Rattle.ether_peel.specs.Grammar.Window.{Window, within}
use Rattle.ether_peel.specs.Grammar.Expectation.{Expectation, has_fcs}
use Rattle.ether_peel.specs.Grammar.Stack.{Ending, Accepted, Fault, last_window, last_expected, Stack, whole, Walk}
use Rattle.ether_peel.specs.Grammar.Endings.{refusal_of}
use Rattle.ether_peel.specs.Grammar.Cuts.{reach}
use Rattle.ether_peel.specs.Walker.Summary.{fault_of}
use Rattle.ether_peel.proofs.Grammar.Carrying.{leads, beyond, Carries, StaysShort}
use Rattle.ether_peel.proofs.Grammar.Extensions.{walk_open_to_end, kept}
use Rattle.ether_peel.proofs.Grammar.Cuts.{reach_least, common, wants_unit}
use Rattle.ether_packet.specs.declared.packet_slice.PacketSlice.{PacketSlice}
use Rattle.ether_packet.specs.Packet.{packet_headers}
use Rattle.ether_packet.specs.Getters.{IsLeastSnap, SnapsAt}

not_longer : (ks later : List Header) (unit : Header) → ks ++ unit ∷ later ≡ ks → ⊥
not_longer ks later unit same =
    let len : length (ks ++ unit ∷ later) ≡ length ks = ap length same in
    absurd (omega (arith, length-append ks (unit ∷ later)))

-- a cut that is refused in a way that stays has all headers
stays : (start : Expectation) (cut more : List ℕ) (hs ks : List Header) (e : Ending) (v : Window) (y : Expectation)
    (r : Refusal) (unit : Header) (later : List Header)
    → has_fcs start ≡ false
    → Walk start (cut ++ more) hs e → Walk start cut ks (Fault v y r) → hs ≡ ks ++ unit ∷ later
    → StaysShort cut more (Fault v y r) → ⊥
stays start cut more hs ks e v y r unit later h t s parts short =
    not_longer ks later unit (sym parts ∙ (kept start cut more ks hs (Fault v y r) e h s t short).0.headers)

-- a cut that ends before a unit of the whole is shorter than the headers reach
cut_before : (start : Expectation) (cut more : List ℕ) (hs ks : List Header) (e f : Ending) (unit : Header)
    (later : List Header) (last : Window)
    → has_fcs start ≡ false
    → Walk start (cut ++ more) hs e → Walk start cut ks f → Carries cut (cut ++ more) more (last_window f) last
    → hs ≡ ks ++ unit ∷ later → Stack (cut ++ more) (last_expected f) last (unit ∷ later) e
    → length cut < reach 0 hs
cut_before start cut more hs ks e (Accepted v y) unit later last h t s c parts rest =
    let end = (leads cut start (whole start cut) ks (Accepted v y) s).1 in
    let both : None ≡ Some (kind_of unit) = sym end.2 ∙ rest.0.announced in
    absurd cc
cut_before start cut more hs ks e (Fault v y (Length required len source layer)) unit later last h t s c parts rest =
    elim (cases_lt (length (within cut v) + length (beyond v.closed more)) required) [
      | inl lt ↦ absurd (stays start cut more hs ks e v y (Length required len source layer) unit later h t s parts lt)
      | inr le ↦
          let in_unit =
          wants_unit start cut more hs ks v y required len source layer unit later last e h s c parts rest le in
          let past = in_unit.past in
          let least = reach_least 0 ks in_unit.later in_unit.unit in
          subst (λ (l : List Header). length cut < reach 0 l) (sym in_unit.units) (omega arith)
    ]
cut_before start cut more hs ks e k unit later last h t s c parts rest = absurd (search (rules, stays))

-- what a cut has of the headers of the whole
record HasOf (n : ℕ) (hs ks : List Header) : Type 0 where
  keeps : reach 0 hs ≤ n → ks ≡ hs
  loses : n < reach 0 hs → length ks < length hs

has_of : (start : Expectation) (cut more : List ℕ) (hs ks rest : List Header) (e f : Ending) (last : Window)
    → has_fcs start ≡ false
    → Walk start (cut ++ more) hs e → Walk start cut ks f → Carries cut (cut ++ more) more (last_window f) last
    → hs ≡ ks ++ rest → Stack (cut ++ more) (last_expected f) last rest e → HasOf (length cut) hs ks
has_of start cut more hs ks [] e f last h t s c parts rest = search (rules, append-nil, walk_open_to_end)
has_of start cut more hs ks (unit ∷ later) e f last h t s c parts rest = search (rules, cut_before, length-append)

cut_has : (start : Expectation) (list : List ℕ) (hs ks : List Header) (e f : Ending) (n : ℕ) → IsBytes list
    → has_fcs start ≡ false → n ≤ length list → Walk start list hs e → Walk start (take n list) ks f → HasOf n hs ks
cut_has start list hs ks e f n ok h le t s =
    let join : list ≡ take n list ++ drop n list = sym (take-append-drop n list) in
    let len : length (take n list) ≡ n = omega (arith, length-take n list) in
    let whole_walk = subst (λ (l : List ℕ). Walk start l hs e) join t in
    let c = common start (take n list) (drop n list) hs ks e f (subst IsBytes join ok) h whole_walk s in
    subst (λ (k : ℕ). HasOf k hs ks) len
    (has_of start (take n list) (drop n list) hs ks c.rest e f c.last h whole_walk s c.carries c.headers c.follows)

pub least_snap : (start : Expectation) (list : List ℕ) (hs : List Header) (e : Ending) → IsBytes list
    → has_fcs start ≡ false → Walk start list hs e → IsLeastSnap start list hs (reach 0 hs)
least_snap start list hs e ok h t = search (rules, walk_open_to_end, cut_has)

pub snaps_at : (p : PacketSlice) (n : ℕ) → n ≡ reach 0 (packet_headers p) → SnapsAt p n
snaps_at p n is start list ok h packet = search (rules, least_snap)

-- ---- faults

pub no_fault : (e : Ending) → refusal_of e ≡ None → fault_of e ≡ None
no_fault (Accepted v y) none = refl
no_fault (Fault v y r) none = absurd cc
