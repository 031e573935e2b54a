-- What some completed packet has after an open unit, exactly.
use Rattle.std.proofs.Common.{◌≡◌, ℕ, ◌-◌, ◌<◌, List, [], ◌∷◌, ◌++◌, length, refl, sym, ap, subst, ◌∙◌, arith, inl, inr, Bool, true, false, ◌||◌, nat_eq, IsTrue, ◌↔◌}
use Rattle.std.specs.Prelude.{Option, Some, None, is_some, replicate}
use Rattle.std.specs.List.{list_any}
use Rattle.std.proofs.lemmas.Bool.{eq-eqb}
use Rattle.std.proofs.lemmas.List.{length-append, length-replicate, append_cancel_left}
use Rattle.etherparse.specs.Kind.{Kind}
use Rattle.etherparse.specs.Header.{Header}
use Rattle.etherparse.specs.Header as headers
use Rattle.ether_peel.specs.Grammar.Expectation.{Next, EtherType, next_after}
use Rattle.ether_peel.specs.Grammar.Stack.{Ending}
use Rattle.ether_peel.specs.Grammar.Endings.{refusal_of}
use Rattle.ether_filter.specs.declared.packet.Packet.{Packet}
use Rattle.ether_filter.specs.declared.prospect.OpenKind.{OpenKind}
use Rattle.ether_filter.specs.declared.prospect.Prospect.{Prospect}
use Rattle.ether_filter.specs.Primitives.{is_tag, is_sec_tag, vlan_ids, ether_type_of, listed, ether_types, Walked, walked}
use Rattle.ether_filter.specs.Prospects.{kind_named}
use Rattle.ether_filter.specs.Later.{CanTag, CanSecTag, CanType, CanRefuse, SomeCompletion, HasAfter, IsOpenAs}
use Rattle.ether_filter.proofs.Follows.{Has, HasSome, follow_nothing, follow_tag, follow_two_tags, follow_sec_tag, follow_tagged_sec_tag, follow_tag_next}
use Rattle.ether_filter.proofs.FollowedRefusals.{HasRefusal, follow_tagged_refusal, follow_sizes}
use Rattle.ether_filter.proofs.Longer.{types_after}
use Rattle.ether_filter.proofs.Tails.{Opens, opens, follow}
use Rattle.ether_filter.proofs.Typed.{zeros_are_bytes}
use Rattle.ether_filter.proofs.LaterLemmas.{IsAfter, Came, refused, accepted, came, tag_offered, types_are, never_fcs}

-- ---- both directions

record WasAccepted (p : Prospect) (unit : Header) (later : List Header) (e : Ending) : Type 0 where
  accepts : IsTrue p.can_be_accepted
  then : IsAfter p unit later e

came_after : (kind : Kind) (known : List ℕ) (room : ℕ) (p : Prospect) (hs ks : List Header) (e : Ending) (unit : Header)
    (later : List Header) → ks ≡ hs ++ unit ∷ later → Came kind known room p hs ks e → WasAccepted p unit later e
came_after kind known room p hs ks e unit later is (refused can same some) =
    absurd (omega (arith, ap length (sym same ∙ is), length-append hs (unit ∷ later)))
came_after kind known room p hs ks e unit later is (accepted can first rest bytes on a same then) =
    let both : first ∷ rest ≡ unit ∷ later = append_cancel_left hs (first ∷ rest) (unit ∷ later) (sym same ∙ is) in
    let unit_is : first ≡ unit = cc in
    let rest_is : rest ≡ later = cc in
    record {
      accepts = can;
      then = subst (λ (h : Header). IsAfter p h later e) unit_is
          (subst (λ (l : List Header). IsAfter p first l e) rest_is then);
    }

-- what follows exactly if the unit is accepted and a condition holds
follows_exactly : (packet : Packet) (hs : List Header) (kind : OpenKind) (known : List ℕ) (room : ℕ) (p : Prospect)
    (Are : Header → List Header → Ending → Type 0) (Can : Type 0) → IsOpenAs packet hs kind known room p
    → (IsTrue p.can_be_accepted → Can → SomeCompletion packet (HasAfter hs Are))
    → ((unit : Header) (later : List Header) (e : Ending) → IsAfter p unit later e → Are unit later e → Can)
    → (IsTrue p.can_be_accepted × Can) ↔ SomeCompletion packet (HasAfter hs Are)
follows_exactly packet hs kind known room p Are Can o some every = (
  λ (got, can). some got can,
  λ s. (let found = s.holds in
      let w = came_after (kind_named kind) known room p hs s.headers s.ending found.0 found.1 found.2
      (came packet hs kind known room p o s.more s.headers s.ending s.completes s.walk) in
      (w.accepts, every found.0 found.1 s.ending w.then found.3)),
)

pub some_of : (packet : Packet) (hs ts : List Header) (refuses : Bool) (Is : Walked → Type 0) → Has packet hs ts refuses
    → ((e : Ending) → is_some (refusal_of e) ≡ refuses → Is (walked packet (hs ++ ts) e)) → SomeCompletion packet Is
some_of packet hs ts refuses Is h holds = record {
  more = h.more;
  headers = hs ++ ts;
  ending = h.ending;
  completes = h.completes;
  walk = h.walk;
  holds = holds h.ending h.refused_is;
}

pub opened : (packet : Packet) (hs : List Header) (kind : OpenKind) (known : List ℕ) (room : ℕ) (p : Prospect)
    → IsOpenAs packet hs kind known room p → Opens packet hs (kind_named kind) known room
opened packet hs kind known room p o = opens packet hs (kind_named kind) known room o.unit

-- ---- each question

pub nothing_follows : (packet : Packet) (hs : List Header) (kind : OpenKind) (known : List ℕ) (room : ℕ) (p : Prospect)
    → IsOpenAs packet hs kind known room p
    → (IsTrue p.can_be_accepted × Unit {0}) ↔ SomeCompletion packet (HasAfter hs (λ unit later e.
    (later ≡ []) × (is_some (refusal_of e) ≡ false)))
nothing_follows packet hs kind known room p o =
    follows_exactly packet hs kind known room p
    (λ unit later e. (later ≡ []) × (is_some (refusal_of e) ≡ false)) (Unit {0}) o
    (λ got can. (let h = follow_nothing packet hs (kind_named kind) known room
    (opened packet hs kind known room p o) p 0 o.bytes (never_fcs kind)
    o.prospect got in
    some_of packet hs (h.unit ∷ []) false
    (HasAfter hs (λ unit later e. (later ≡ []) × (is_some (refusal_of e) ≡ false))) h.has
    (λ e none. (h.unit, [], refl, (refl, none)))))
    (λ unit later e then none. tt)

pub tag_follows : (packet : Packet) (hs : List Header) (kind : OpenKind) (known : List ℕ) (room : ℕ) (p : Prospect)
    → IsOpenAs packet hs kind known room p
    → (IsTrue p.can_be_accepted × CanTag p 4)
    ↔ SomeCompletion packet (HasAfter hs (λ unit later e. IsTrue (list_any is_tag later)))
tag_follows packet hs kind known room p o =
    follows_exactly packet hs kind known room p (λ unit later e. IsTrue (list_any is_tag later)) (CanTag p 4) o
    (λ got can. (let h = follow_tag packet hs (kind_named kind) known room
    (opened packet hs kind known room p o) p 0 o.bytes (never_fcs kind)
    o.prospect got (tag_offered p.next can.0) can.1 (omega arith) in
    some_of packet hs (h.unit ∷ headers.Vlan h.tag ∷ []) false
    (HasAfter hs (λ unit later e. IsTrue (list_any is_tag later))) h.has
    (λ e none. (h.unit, headers.Vlan h.tag ∷ [], refl, refl))))
    (λ unit later e then any. then.tag any)

pub two_tags_follow : (packet : Packet) (hs : List Header) (kind : OpenKind) (known : List ℕ) (room : ℕ) (p : Prospect)
    → IsOpenAs packet hs kind known room p
    → (IsTrue p.can_be_accepted × CanTag p 8) ↔ SomeCompletion packet (HasAfter hs (λ unit later e.
    (n : ℕ) × (m : ℕ) × (ids : List ℕ) × (vlan_ids later ≡ n ∷ m ∷ ids)))
two_tags_follow packet hs kind known room p o =
    follows_exactly packet hs kind known room p
    (λ unit later e. (n : ℕ) × (m : ℕ) × (ids : List ℕ) × (vlan_ids later ≡ n ∷ m ∷ ids)) (CanTag p 8) o
    (λ got can. (let h = follow_two_tags packet hs (kind_named kind) known room
    (opened packet hs kind known room p o) p 0 o.bytes (never_fcs kind)
    o.prospect got (tag_offered p.next can.0) can.1 (omega arith) in
    let later = headers.Vlan h.first ∷ headers.Vlan h.second ∷ [] in
    some_of packet hs (h.unit ∷ later) false
    (HasAfter hs (λ unit later e. (n : ℕ) × (m : ℕ) × (ids : List ℕ) × (vlan_ids later ≡ n ∷ m ∷ ids))) h.has
    (λ e none. (h.unit, later, refl, (h.first.vid, h.second.vid, [], refl)))))
    (λ unit later e then found. then.two_tags found.0 found.1 found.2 found.3)

some_sec_tag : (packet : Packet) (hs : List Header) (kind : Kind)
    → HasSome packet hs kind is_sec_tag
    → SomeCompletion packet (HasAfter hs (λ unit later e. IsTrue (list_any is_sec_tag later)))
some_sec_tag packet hs kind h = record {
  more = h.more;
  headers = hs ++ h.unit ∷ h.later;
  ending = h.ending;
  completes = h.completes;
  walk = h.walk;
  holds = (h.unit, h.later, refl, h.any);
}

pub sec_tag_follows : (packet : Packet) (hs : List Header) (kind : OpenKind) (known : List ℕ) (room : ℕ) (p : Prospect)
    → IsOpenAs packet hs kind known room p
    → (IsTrue p.can_be_accepted × CanSecTag p)
    ↔ SomeCompletion packet (HasAfter hs (λ unit later e. IsTrue (list_any is_sec_tag later)))
sec_tag_follows packet hs kind known room p o =
    follows_exactly packet hs kind known room p (λ unit later e. IsTrue (list_any is_sec_tag later)) (CanSecTag p) o
    by_place (λ unit later e then any. then.sec_tag any)
  where
    by_place : IsTrue p.can_be_accepted → CanSecTag p
        → SomeCompletion packet (HasAfter hs (λ unit later e. IsTrue (list_any is_sec_tag later)))
    by_place got (inl here) = some_sec_tag packet hs (kind_named kind)
        (follow_sec_tag packet hs (kind_named kind) known room (opened packet hs kind known room p o) p o.bytes
        (never_fcs kind) o.prospect got here.0
        here.1)
    by_place got (inr tagged) = some_sec_tag packet hs (kind_named kind)
        (follow_tagged_sec_tag packet hs (kind_named kind) known room (opened packet hs kind known room p o) p o.bytes
        (never_fcs kind) o.prospect got
        (tag_offered p.next tagged.0) tagged.1)

-- ---- ether types

same_first : (n t : ℕ) (ts : List ℕ) → n ≡ t → list_any (nat_eq n) (t ∷ ts) ≡ true
same_first n t ts is =
    ap (λ (b : Bool). b || list_any (nat_eq n) ts) (ap (nat_eq n) (sym is) ∙ eq-eqb n n refl)

same_later : (n m : ℕ) (ts : List ℕ) → list_any (nat_eq n) ts ≡ true → list_any (nat_eq n) (m ∷ ts) ≡ true
same_later n m ts any = by_test (nat_eq n m)
  where
    by_test : (b : Bool) → (b || list_any (nat_eq n) ts) ≡ true
    by_test true = refl
    by_test false = any

announced_any : (n : ℕ) (next : Next) (later : List Header) → next ≡ EtherType n
    → list_any (nat_eq n) (ether_types next later) ≡ true
announced_any n next later is =
    ap (list_any (nat_eq n)) (types_are next n later is) ∙ same_first n n (types_after later) refl

announced_later : (n : ℕ) (o : Option ℕ) (ts : List ℕ) → list_any (nat_eq n) ts ≡ true
    → list_any (nat_eq n) (listed o ++ ts) ≡ true
announced_later n None ts any = any
announced_later n (Some m) ts any = same_later n m ts any

pub type_follows : (packet : Packet) (hs : List Header) (kind : OpenKind) (known : List ℕ) (room : ℕ) (p : Prospect)
    (n : ℕ) → n < 65536 → IsOpenAs packet hs kind known room p
    → (IsTrue p.can_be_accepted × CanType p n) ↔ SomeCompletion packet (HasAfter hs (λ unit later e.
    IsTrue (list_any (nat_eq n) (ether_types (next_after unit) later))))
type_follows packet hs kind known room p n lt o =
    follows_exactly packet hs kind known room p
    (λ unit later e. IsTrue (list_any (nat_eq n) (ether_types (next_after unit) later))) (CanType p n) o by_place
    (λ unit later e then any. then.type n any)
  where
    by_place : IsTrue p.can_be_accepted → CanType p n
        → SomeCompletion packet (HasAfter hs (λ unit later e.
        IsTrue (list_any (nat_eq n) (ether_types (next_after unit) later))))
    by_place got (inl offers) =
        let f = follow packet hs (kind_named kind) known room (opened packet hs kind known room p o) p n
        (replicate p.room 0) o.bytes (never_fcs kind)
        o.prospect got lt offers (zeros_are_bytes p.room) (length-replicate {A = ℕ} p.room 0) in
        record {
          more = f.more;
          headers = hs ++ f.unit ∷ f.later;
          ending = f.ending;
          completes = f.completes;
          walk = f.walk;
          holds = (f.unit, f.later, refl, announced_any n (next_after f.unit) f.later f.announced_is);
        }
    by_place got (inr tagged) =
        let rest = p.room - 4 in
        let f = follow_tag_next packet hs (kind_named kind) known room (opened packet hs kind known room p o) p n
        (replicate rest 0) o.bytes
        (never_fcs kind) o.prospect got (tag_offered p.next tagged.0) lt (zeros_are_bytes rest)
        (omega (arith, length-replicate {A = ℕ} rest 0, tagged.1)) in
        let tag = headers.Vlan f.tag in
        record {
          more = f.more;
          headers = hs ++ f.unit ∷ tag ∷ f.later;
          ending = f.ending;
          completes = f.completes;
          walk = f.walk;
          holds = (
            f.unit,
            tag ∷ f.later,
            refl,
            announced_later n (ether_type_of (next_after f.unit)) (ether_types (next_after tag) f.later)
                (announced_any n (next_after tag) f.later (ap EtherType f.type_is)),
          );
        }

-- ---- refusals

pub refusal_follows : (packet : Packet) (hs : List Header) (kind : OpenKind) (known : List ℕ) (room : ℕ) (p : Prospect)
    → IsOpenAs packet hs kind known room p
    → (IsTrue p.can_be_accepted × CanRefuse p)
    ↔ SomeCompletion packet (HasAfter hs (λ unit later e. IsTrue (is_some (refusal_of e))))
refusal_follows packet hs kind known room p o =
    follows_exactly packet hs kind known room p (λ unit later e. IsTrue (is_some (refusal_of e))) (CanRefuse p) o
    by_kind (λ unit later e then some. then.refusal some)
  where
    some_refusal : HasRefusal packet hs
        → SomeCompletion packet (HasAfter hs (λ unit later e. IsTrue (is_some (refusal_of e))))
    some_refusal h = some_of packet hs (h.unit ∷ h.later) true
        (HasAfter hs (λ unit later e. IsTrue (is_some (refusal_of e)))) h.has
        (λ e some. (h.unit, h.later, refl, some))

    by_kind : IsTrue p.can_be_accepted → CanRefuse p
        → SomeCompletion packet (HasAfter hs (λ unit later e. IsTrue (is_some (refusal_of e))))
    by_kind got (inl tagged) = some_refusal
        (follow_tagged_refusal packet hs (kind_named kind) known room (opened packet hs kind known room p o) p o.bytes
        (never_fcs kind) o.prospect got
        (tag_offered p.next tagged))
    by_kind got (inr arp) = some_refusal
        (follow_sizes packet hs (kind_named kind) known room (opened packet hs kind known room p o) p o.bytes
        (never_fcs kind) o.prospect got arp.0
        arp.1)
