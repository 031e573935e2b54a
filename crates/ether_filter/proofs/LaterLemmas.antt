-- What completed packets can have after an open unit, and what they cannot.
use Rattle.std.proofs.Common.{◌≡◌, ℕ, ◌<◌, ◌≤◌, List, [], ◌∷◌, ◌++◌, length, refl, sym, ap, subst, ◌∙◌, arith, inl, inr, ◌⊎◌, Bool, true, false, ◌||◌, nat_eq, IsTrue}
use Rattle.std.specs.Prelude.{is_some}
use Rattle.std.specs.List.{list_any}
use Rattle.std.proofs.lemmas.Bool.{eqb-true}
use Rattle.std.proofs.lemmas.List.{append-nil}
use Rattle.etherparse.specs.Kind.{Kind}
use Rattle.etherparse.specs.Kind as kinds
use Rattle.etherparse.specs.Vlan.{is_vlan_ether_type}
use Rattle.etherparse.specs.Header.{Header}
use Rattle.etherparse.specs.Header as headers
use Rattle.ether_peel.specs.Grammar.Window.{Window, within, payload}
use Rattle.ether_peel.specs.Grammar.Expectation.{Expectation, Next, Start, EtherType, Sll, Sealed, AfterArp, next_after, after}
use Rattle.ether_peel.specs.Grammar.Stack.{Ending, Stack, Walk}
use Rattle.ether_peel.specs.Grammar.Endings.{refusal_of}
use Rattle.ether_peel.specs.Walker.Start.{start_of}
use Rattle.ether_peel.proofs.Grammar.Carrying.{no_fcs_after}
use Rattle.ether_filter.specs.declared.packet.Packet.{Packet}
use Rattle.ether_filter.specs.declared.prospect.Announced.{Announced}
use Rattle.ether_filter.specs.declared.prospect.Announced.TheVariants.{Nothing, Any, High}
use Rattle.ether_filter.specs.declared.prospect.OpenKind.{OpenKind}
use Rattle.ether_filter.specs.declared.prospect.OpenKind.TheVariants as open_kinds
use Rattle.ether_filter.specs.declared.prospect.Prospect.{Prospect}
use Rattle.ether_filter.specs.Primitives.{is_tag, is_sec_tag, vlan_ids, ether_types}
use Rattle.ether_filter.specs.Prospects.{IsCompletion, Continues, AreAccepted, Offers, IsProspect, IsOpen, kind_named}
use Rattle.ether_filter.specs.Later.{OffersTag, CanTag, CanSecTag, CanType, CanRefuse, IsOpenAs}
use Rattle.ether_filter.proofs.Announced.{vlan_type}
use Rattle.ether_filter.proofs.Following.{is_lead, TagRoom, tag_room, two_tags_room, sec_tag_room, type_room, refusal_room}
use Rattle.ether_filter.proofs.Follows.{quiet, vlan_announced}
use Rattle.ether_filter.proofs.Leads.{TagType, tag_type, quiet_after, vlan_below}
use Rattle.ether_filter.proofs.Longer.{types_after, is_link, no_links, no_link_after}
use Rattle.ether_filter.proofs.Read.{begins_nothing}
use Rattle.ether_filter.proofs.Tails.{opens, tail, either, accepted_tail, payload_within, no_fcs}

-- ---- an ether type of a VLAN tag

pub offered_tag : (next : Announced) → TagType next → OffersTag next
offered_tag next type = (type.number, type.offered, vlan_announced type.number type.is_vlan)

pub tag_offered : (next : Announced) → OffersTag next → TagType next
tag_offered next (t, offers, is) =
    let vlan = vlan_type t is in
    record { number = t; offered = offers; is_vlan = vlan; fits = vlan_below t vlan }

pub never_fcs : (kind : OpenKind) → kind_named kind ≡ kinds.Ethernet2Fcs → ⊥
never_fcs open_kinds.Ethernet2 is = cc
never_fcs open_kinds.LinuxSll is = cc
never_fcs open_kinds.Vlan is = cc
never_fcs open_kinds.Macsec is = cc
never_fcs open_kinds.Arp is = cc

-- ---- what every completed packet has after a unit that is accepted

-- no Ethernet II header is among them, and the identifiers of VLAN tags have 12 bits
pub record ArePlain (later : List Header) : Type 0 where
  pub links : list_any is_link later ≡ false
  pub ids : (n : ℕ) → list_any (nat_eq n) (vlan_ids later) ≡ true → n < 4096

pub by_either : (a b : Bool) (P : Type 0) → (a ≡ true → P) → (b ≡ true → P) → (a || b) ≡ true → P
by_either true b P f g is = f refl
by_either false b P f g is = g is

ids_fit : (list : List ℕ) (x : Expectation) (w : Window) (ts : List Header) (e : Ending) → Stack list x w ts e → (n : ℕ)
    → list_any (nat_eq n) (vlan_ids ts) ≡ true → n < 4096
ids_fit list x w [] e s n any = absurd cc
ids_fit list x w (headers.Vlan v ∷ ts) e s n any =
    let fits = s.0.means.spells.fits.vid in
    by_either (nat_eq n v.vid) (list_any (nat_eq n) (vlan_ids ts)) (n < 4096)
    (λ same. omega (arith, eqb-true n v.vid same, fits))
    (λ later. ids_fit list (after x (headers.Vlan v)) (payload w (headers.Vlan v)) ts e s.1 n later) any
ids_fit list x w (headers.Ethernet2 h ∷ ts) e s n any =
    ids_fit list (after x (headers.Ethernet2 h)) (payload w (headers.Ethernet2 h)) ts e s.1 n any
ids_fit list x w (headers.Ethernet2Fcs h ∷ ts) e s n any =
    ids_fit list (after x (headers.Ethernet2Fcs h)) (payload w (headers.Ethernet2Fcs h)) ts e s.1 n any
ids_fit list x w (headers.LinuxSll h ∷ ts) e s n any =
    ids_fit list (after x (headers.LinuxSll h)) (payload w (headers.LinuxSll h)) ts e s.1 n any
ids_fit list x w (headers.Macsec h ∷ ts) e s n any =
    ids_fit list (after x (headers.Macsec h)) (payload w (headers.Macsec h)) ts e s.1 n any
ids_fit list x w (headers.Arp h ∷ ts) e s n any =
    ids_fit list (after x (headers.Arp h)) (payload w (headers.Arp h)) ts e s.1 n any

plain : (list : List ℕ) (x : Expectation) (w : Window) (unit : Header) (later : List Header) (e : Ending)
    → Stack list (after x unit) w later e → ArePlain later
plain list x w unit later e s = record {
  links = no_links list (after x unit) w later e (no_link_after x unit) (no_fcs_after x unit) s;
  ids = ids_fit list (after x unit) w later e s;
}

pub record IsAfter (p : Prospect) (unit : Header) (later : List Header) (e : Ending) : Type 0 where
  pub tag : list_any is_tag later ≡ true → CanTag p 4
  pub two_tags : (n m : ℕ) (ids : List ℕ) → vlan_ids later ≡ n ∷ m ∷ ids → CanTag p 8
  pub sec_tag : list_any is_sec_tag later ≡ true → CanSecTag p
  pub type : (n : ℕ) → list_any (nat_eq n) (ether_types (next_after unit) later) ≡ true → CanType p n
  pub refusal : is_some (refusal_of e) ≡ true → CanRefuse p
  pub plain : ArePlain later

tag_in : (p : Prospect) (list : List ℕ) (w : Window) (t n : ℕ) → Offers p.next t
    → length (within list w) ≤ p.room → TagRoom list w t n → CanTag p n
tag_in p list w t n offers few r = (offered_tag p.next (tag_type p.next t offers r.leads), omega (arith, r.room, few))

sec_tag_in : (p : Prospect) (len t : ℕ) → Offers p.next t → len ≤ p.room
    → ((t ≡ 0x88E5) × (6 ≤ len)) ⊎ ((is_vlan_ether_type t ≡ true) × (10 ≤ len)) → CanSecTag p
sec_tag_in p len t offers few (inl here) = inl (subst (Offers p.next) here.0 offers, omega (arith, here.1, few))
sec_tag_in p len t offers few (inr later) =
    inr ((t, offers, vlan_announced t later.0), omega (arith, later.1, few))

refusal_in : (p : Prospect) (len t : ℕ) → Offers p.next t → ((b : ℕ) → p.next ≡ High b → len ≡ p.room)
    → (is_lead t ≡ true) ⊎ ((t ≡ 0x0806) × (len < 1028)) → CanRefuse p
refusal_in p len t offers exact (inl lead) = inl (offered_tag p.next (tag_type p.next t offers lead))
refusal_in p len t offers exact (inr arp) = by_next p.next refl
  where
    by_next : (next : Announced) → p.next ≡ next → CanRefuse p
    by_next Nothing is = absurd (subst (λ (a : Announced). Offers a t) is offers)
    by_next Any is = inl (subst OffersTag (sym is) (0x8100, tt, refl))
    by_next (High b) is = inr (subst (Offers p.next) arp.0 offers, omega (arith, arp.1, exact b is))

pub types_are : (next : Next) (t : ℕ) (later : List Header) → next ≡ EtherType t
    → ether_types next later ≡ t ∷ types_after later
types_are next t [] is = ap (λ (n : Next). ether_types n []) is
types_are next t (h ∷ later) is = ap (λ (n : Next). ether_types n (h ∷ later)) is

type_in : (p : Prospect) (list : List ℕ) (w : Window) (t n : ℕ) (later : List Header) → Offers p.next t
    → length (within list w) ≤ p.room
    → (list_any (nat_eq n) (types_after later) ≡ true → TagRoom list w t 4)
    → (nat_eq n t || list_any (nat_eq n) (types_after later)) ≡ true → CanType p n
type_in p list w t n later offers few room is =
    by_either (nat_eq n t) (list_any (nat_eq n) (types_after later)) (CanType p n)
    (λ same. inl (subst (Offers p.next) (sym (eqb-true n t same)) offers))
    (λ more. inr (tag_in p list w t 4 offers few (room more))) is

-- after an ether type
typed_after : (p : Prospect) (list : List ℕ) (x : Expectation) (w : Window) (unit : Header) (t : ℕ)
    (later : List Header)
    (e : Ending) → x.next ≡ EtherType t → next_after unit ≡ EtherType t → Stack list x w later e → Offers p.next t
    → length (within list w) ≤ p.room → ((b : ℕ) → p.next ≡ High b → length (within list w) ≡ p.room)
    → ArePlain later → IsAfter p unit later e
typed_after p list x w unit t later e is then s offers few exact are = record {
  tag = λ any. tag_in p list w t 4 offers few (tag_room list x w later e t is s any);
  two_tags = λ n m ids are. tag_in p list w t 8 offers few (two_tags_room list x w later e t n m ids is s are);
  sec_tag = λ any. sec_tag_in p (length (within list w)) t offers few (sec_tag_room list x w later e t is s any);
  type = λ n any. type_in p list w t n later offers few (λ more. type_room list x w later e t n is s more)
      (sym (ap (list_any (nat_eq n)) (types_are (next_after unit) t later then)) ∙ any);
  refusal = λ some. refusal_in p (length (within list w)) t offers exact (refusal_room list x w later e t is s some);
  plain = are;
}

-- nothing
quiet_types : (next : Next) → ((t : ℕ) → next ≡ EtherType t → ⊥) → ether_types next [] ≡ []
quiet_types (Start kind) never = refl
quiet_types (EtherType t) never = absurd (never t refl)
quiet_types (Sll protocol) never = refl
quiet_types Sealed never = refl
quiet_types AfterArp never = refl

quietly_after : (p : Prospect) (unit : Header) (later : List Header) (e : Ending)
    → ((t : ℕ) → next_after unit ≡ EtherType t → ⊥) → (later ≡ []) × (is_some (refusal_of e) ≡ false)
    → ArePlain later → IsAfter p unit later e
quietly_after p unit later e never none are_plain = record {
  tag = λ any. let gone : false ≡ true = sym (ap (list_any is_tag) none.0) ∙ any in absurd cc;
  two_tags = λ n m ids are. let gone : [] ≡ n ∷ m ∷ ids = sym (ap vlan_ids none.0) ∙ are in absurd cc;
  sec_tag = λ any. let gone : false ≡ true = sym (ap (list_any is_sec_tag) none.0) ∙ any in absurd cc;
  type = λ n any. let gone : false ≡ true = sym (ap (list_any (nat_eq n))
      (ap (ether_types (next_after unit)) none.0 ∙ quiet_types (next_after unit) never)) ∙ any in absurd cc;
  refusal = λ some. let gone : true ≡ false = sym some ∙ none.1 in absurd cc;
  plain = are_plain;
}

type_or : (next : Next) → ((t : ℕ) × (next ≡ EtherType t)) ⊎ ((t : ℕ) → next ≡ EtherType t → ⊥)
type_or (Start kind) = inr (λ t is. cc)
type_or (EtherType t) = inl (t, refl)
type_or (Sll protocol) = inr (λ t is. cc)
type_or Sealed = inr (λ t is. cc)
type_or AfterArp = inr (λ t is. cc)

-- ---- every completed packet

pub data Came (kind : Kind) (known : List ℕ) (room : ℕ) (p : Prospect) (hs ks : List Header) (f : Ending) : Type 0 where
  refused : IsTrue p.can_be_refused → ks ≡ hs → is_some (refusal_of f) ≡ true → Came kind known room p hs ks f
  accepted : IsTrue p.can_be_accepted → (unit : Header) (later : List Header) (bytes : List ℕ)
      → Continues known room bytes → AreAccepted kind bytes unit → ks ≡ hs ++ unit ∷ later → IsAfter p unit later f
      → Came kind known room p hs ks f

came_accepted : (packet : Packet) (hs : List Header) (kind : Kind) (known : List ℕ) (room : ℕ) (p : Prospect)
    (o : IsOpen packet hs kind known room) → IsProspect kind known room p → (kind ≡ kinds.Ethernet2Fcs → ⊥)
    → (more : List ℕ) → IsCompletion packet more → (later : List Header) (f : Ending)
    → Stack (packet.frame.now ++ more) o.expected o.window later f → (h : Header)
    → AreAccepted kind (within (packet.frame.now ++ more) o.window) h → Came kind known room p hs (hs ++ later) f
came_accepted packet hs kind known room p o is free more c later f s h a =
    let list = packet.frame.now ++ more in
    let bytes = within list o.window in
    let on = o.continues more c in
    let b = accepted_tail list o.expected o.window kind h later f o.announces a s in
    let at = o.inside more c in
    let same = payload_within list o.expected o.window h at (no_fcs h kind a.of_kind free) b.unit in
    let x = after o.expected h in
    let w = payload o.window h in
    let are = plain list o.expected w h b.later f b.stack in
    let then : IsAfter p h b.later f = elim (type_or (next_after h)) [
      | inl type ↦
          let both = is.followed bytes h type.0 on a type.1 in
          typed_after p list x w h type.0 b.later f type.1 type.1 b.stack both.0 (omega (arith, ap length same, both.1))
          (λ n high. ap length same ∙ is.exact n high bytes h type.0 on a type.1) are
      | inr never ↦ quietly_after p h b.later f never (quiet list x w b.later f (quiet_after h never) b.stack) are
    ] in
    accepted (is.accepted.1 (bytes, h, on, a)) h b.later bytes on a (ap (λ (l : List Header). hs ++ l) b.is) then

pub came : (packet : Packet) (hs : List Header) (kind : OpenKind) (known : List ℕ) (room : ℕ) (p : Prospect)
    → IsOpenAs packet hs kind known room p → (more : List ℕ) (ks : List Header) (f : Ending) → IsCompletion packet more
    → Walk (start_of packet.start) (packet.frame.now ++ more) ks f → Came (kind_named kind) known room p hs ks f
came packet hs kind known room p open_as more ks f c s =
    let o = open_as.unit in
    let is = open_as.prospect in
    let t = tail packet hs (kind_named kind) known room
    (opens packet hs (kind_named kind) known room o) more ks f open_as.bytes c s in
    let list = packet.frame.now ++ more in
    let on = o.continues more c in
    let all : Came (kind_named kind) known room p hs (hs ++ t.later) f =
    elim (either (kind_named kind) (within list o.window) on.are_bytes) [
      | inl gone ↦
          let none = begins_nothing list o.expected o.window t.later f (kind_named kind) o.announces gone t.stack in
          refused (is.refused.1 (within list o.window, on, gone))
          (ap (λ (l : List Header). hs ++ l) none.0 ∙ append-nil hs) none.1
      | inr got ↦
          came_accepted packet hs (kind_named kind) known room p o is
          (never_fcs kind) more c t.later f t.stack got.0 got.1
    ] in
    subst (λ (l : List Header). Came (kind_named kind) known room p hs l f) (sym t.is) all
