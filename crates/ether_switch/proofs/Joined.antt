-- No frame crosses VLANs, at one bridge or over links between bridges.
use Rattle.std.proofs.Common.{◌≡◌, ◌≢◌, ℕ, ◌<◌, ◌≤◌, ◌⊎◌, inl, inr, Bool, true, false, not, ◌&&◌, ◌||◌, nat_eq, if◌then◌else◌, List, [], ◌∷◌, Option, Some, None, Result, Ok, Err, refl, sym, ap, subst, ◌∙◌, arith}
use Rattle.std.specs.Prelude.{IsSomeAnd}
use Rattle.std.proofs.lemmas.Bool.{and_parts, eqb-false, ne_eqb}
use Rattle.etherparse.specs.Header.{Header}
use Rattle.etherparse.specs.Vlan.{VlanValue}
use Rattle.ether_peel.specs.Grammar.Stack.{Ending, Walk}
use Rattle.ether_peel.specs.Walker.Start.{start_of}
use Rattle.ether_peel.specs.declared.start.Start.TheVariants as starts
use Rattle.ether_switch.specs.declared.arrival.Arrived.{Arrived}
use Rattle.ether_switch.specs.declared.arrival.Discarded.{Discarded}
use Rattle.ether_switch.specs.declared.arrival.Discarded.TheVariants.{Source, FrameType, SecondTag, PortState}
use Rattle.ether_switch.specs.declared.arrival.Tagging.TheVariants.{PriorityTagged, VlanTagged}
use Rattle.ether_switch.specs.declared.bridge_kind.BridgeKind.{BridgeKind}
use Rattle.ether_switch.specs.declared.port.AcceptableFrames.{AcceptableFrames}
use Rattle.ether_switch.specs.declared.port.AcceptableFrames.TheVariants.{OnlyUntagged}
use Rattle.ether_switch.specs.declared.received.Received.{Received}
use Rattle.ether_switch.specs.declared.stations.StationBucket.{StationBucket}
use Rattle.ether_switch.specs.Arrivals.{Front, front_of, tagging_by, tagging_of, admits, is_station, vlan_by, vlan_of, second_tag_by, has_second_tag, arrived, arrival_in}
use Rattle.ether_switch.specs.Leaving.{LeavesTagged, LeavesUntagged}
use Rattle.ether_switch.specs.Ports.{has}
use Rattle.ether_switch.specs.Relaying.{Settings, Event, is_for_bridge, static_ports, goes_to, may_leave, is_mirror, relayed, kept, unless_refused, answered, refused_in, with_front, arrival_by, arrival, vlan_in, answer_arrival, IsAnswer, Returns}
use Rattle.ether_switch.specs.Laws.{LeavesBy, Passes, vlan_at, SendsIn, VlansAreIsolated, Hop, Travels, last_hop, Fits, AllFit, HasNoSecondTag, AllTagged, VlansAreIsolatedOverLinks}
use Rattle.ether_switch.proofs.Tags.{match_true, match_false}
use Rattle.ether_switch.proofs.Passing.{Named, tagged_named, Bare, untagged_bare}

-- ---- what is known of a frame that is passed on

-- what was read of it, and how it was answered
record Read (v : Event) (r : Received) : Type 0 where
  f : Front
  a : Arrived
  known : Option ℕ
  front_is : front_of v.settings.kind v.hs ≡ Ok f
  arrival_is : arrival v ≡ Ok (f, a)
  vlan_is : vlan_of v.port.pvid f ≡ Some a.vlan
  answered_is : Returns (answered v.settings v.from (refused_in v f a) a known) (Ok r)

read_station : (v : Event) (table : List StationBucket) (r : Received) (f : Front) (vid : ℕ) (b : Bool)
    → front_of v.settings.kind v.hs ≡ Ok f → vlan_of v.port.pvid f ≡ Some vid → is_station f.link.source ≡ b
    → Returns (answer_arrival v (with_front f (if b then Ok (arrived v.port f vid) else Err Source)) table) (Ok r)
    → Read v r
read_station v table r f vid true front vlan is l = record {
  f = f;
  a = arrived v.port f vid;
  known = _;
  front_is = front;
  arrival_is = ap (arrival_by v.port) front
      ∙ ap (λ (o : Option ℕ). with_front f (arrival_in v.port f o)) vlan
      ∙ ap (λ (b : Bool). with_front f (if b then Ok (arrived v.port f vid) else Err Source)) is;
  vlan_is = vlan;
  answered_is = l;
}
read_station v table r f vid false front vlan is l = absurd l

read_vlan : (v : Event) (table : List StationBucket) (r : Received) (f : Front) (o : Option ℕ)
    → front_of v.settings.kind v.hs ≡ Ok f → vlan_of v.port.pvid f ≡ o
    → Returns (answer_arrival v (with_front f (arrival_in v.port f o)) table) (Ok r) → Read v r
read_vlan v table r f None front vlan l = absurd l
read_vlan v table r f (Some vid) front vlan l =
    read_station v table r f vid (is_station f.link.source) front vlan refl l

read_front : (v : Event) (table : List StationBucket) (r : Received) (o : Result Front Discarded)
    → front_of v.settings.kind v.hs ≡ o → Returns (answer_arrival v (arrival_by v.port o) table) (Ok r) → Read v r
read_front v table r (Err reason) front l = absurd l
read_front v table r (Ok f) front l = read_vlan v table r f (vlan_of v.port.pvid f) front refl l

-- .. if it leaves: the port took it, and it was not for the bridge itself
record Sent (v : Event) (r : Received) : Type 0 where
  f : Front
  a : Arrived
  known : Option ℕ
  front_is : front_of v.settings.kind v.hs ≡ Ok f
  arrival_is : arrival v ≡ Ok (f, a)
  vlan_is : vlan_of v.port.pvid f ≡ Some a.vlan
  taken : refused_in v f a ≡ None
  answer : IsAnswer (relayed v.settings v.from a known) r

abbrev Goes : Received → ℕ → Type 0
Goes r to = (has r.tagged to ≡ true) ⊎ (has r.untagged to ≡ true)

goes : (r : Received) (to : ℕ) (front : Result Front Discarded) (frame : List ℕ) (hs : List Header) (e : Ending)
    (sent : List ℕ) → LeavesBy r to front frame hs e sent → Goes r to
goes r to front frame hs e sent (inl l) = inl l.0
goes r to front frame hs e sent (inr l) = inr l.0

kept_stays : (s : Settings) (a : Arrived) (r : Received) (to : ℕ) → to < 256 → IsAnswer (kept s a) r → Goes r to → ⊥
kept_stays s a r to lt is (inl g) = let both : true ≡ false = sym g ∙ is.tagged to lt in cc
kept_stays s a r to lt is (inr g) = let both : true ≡ false = sym g ∙ is.untagged to lt in cc

sent_forwarding : (v : Event) (r : Received) (x : Read v r) (b : Bool) → refused_in v x.f x.a ≡ None
    → Returns (if b then Ok (relayed v.settings v.from x.a x.known) else Err PortState) (Ok r) → Sent v r
sent_forwarding v r x true none l = record {
  f = x.f;
  a = x.a;
  known = x.known;
  front_is = x.front_is;
  arrival_is = x.arrival_is;
  vlan_is = x.vlan_is;
  taken = none;
  answer = l;
}
sent_forwarding v r x false none l = absurd l

sent_taken : (v : Event) (r : Received) (x : Read v r) (o : Option Discarded) → refused_in v x.f x.a ≡ o
    → Returns (unless_refused v.settings v.from o (relayed v.settings v.from x.a x.known)) (Ok r) → Sent v r
sent_taken v r x (Some reason) is l = absurd l
sent_taken v r x None is l = sent_forwarding v r x (has v.settings.ports.forwarding v.from) is l

sent_kept : (v : Event) (r : Received) (x : Read v r) (to : ℕ) (b : Bool) → to < 256 → Goes r to
    → Returns (if b then Ok (kept v.settings x.a)
    else unless_refused v.settings v.from (refused_in v x.f x.a) (relayed v.settings v.from x.a x.known)) (Ok r)
    → Sent v r
sent_kept v r x to true lt g l = absurd (kept_stays v.settings x.a r to lt l g)
sent_kept v r x to false lt g l = sent_taken v r x (refused_in v x.f x.a) refl l

sent_by : (v : Event) (table : List StationBucket) (to : ℕ) (frame sent : List ℕ) (p : Passes v table to frame sent)
    → Sent v p.received
sent_by v table to frame sent p =
    let x = read_front v _ p.received (front_of v.settings.kind v.hs) refl p.returns in
    sent_kept v p.received x to (is_for_bridge v.settings x.a.destination) p.is_port
    (goes p.received to (front_of v.settings.kind v.hs) frame v.hs p.ending sent p.leaves) x.answered_is

-- ---- through which ports it leaves

not_false : (b : Bool) → not b ≡ true → b ≡ false
not_false true e = sym e
not_false false e = refl

no_mirror : (s m rest : Bool) → m ≡ false → ((s && m) || rest) ≡ true → rest ≡ true
no_mirror true m rest is e = sym (ap (λ (b : Bool). b || rest) is) ∙ e
no_mirror false m rest is e = e

-- a port through which frames may leave is a member
member_may : (m f e i : Bool) → (m && f && e && i) ≡ true → m ≡ true
member_may m f e i is = (and_parts m f (and_parts (m && f) e (and_parts (m && f && e) i is).0).0).0

record IsOf (v : Event) (a : Arrived) (to : ℕ) (untagged : Bool) : Type 0 where
  member : has (vlan_at v a.vlan).members to ≡ true
  form : has (vlan_at v a.vlan).untagged to ≡ untagged

tagged_of : (v : Event) (r : Received) (s : Sent v r) (to : ℕ) → to < 256 → has v.settings.ports.mirrors to ≡ false
    → has r.tagged to ≡ true → IsOf v s.a to false
tagged_of v r s to lt mirror g =
    let vlan = vlan_at v s.a.vlan in
    let may = may_leave v.settings.ports vlan v.from to in
    let leaves = may
    && goes_to (static_ports v.settings.entries s.a.vlan s.a.destination) s.known to in
    let plain : (leaves && not (has vlan.untagged to)) ≡ true =
    no_mirror (not (nat_eq to v.from)) (has v.settings.ports.mirrors to) (leaves && not (has vlan.untagged to))
    mirror (sym (s.answer.tagged to lt) ∙ g) in
    record {
      member = member_may (has vlan.members to) _ _ _ (and_parts may _ (and_parts leaves _ plain).0).0;
      form = not_false (has vlan.untagged to) (and_parts leaves _ plain).1;
    }

untagged_of : (v : Event) (r : Received) (s : Sent v r) (to : ℕ) → to < 256
    → has r.untagged to ≡ true → IsOf v s.a to true
untagged_of v r s to lt g =
    let vlan = vlan_at v s.a.vlan in
    let may = may_leave v.settings.ports vlan v.from to in
    let leaves = may
    && goes_to (static_ports v.settings.entries s.a.vlan s.a.destination) s.known to in
    let all : (leaves && has vlan.untagged to && not (is_mirror v.settings.ports v.from to)) ≡ true =
    sym (s.answer.untagged to lt) ∙ g in
    let both : (leaves && has vlan.untagged to) ≡ true = (and_parts (leaves && has vlan.untagged to) _ all).0 in
    record {
      member = member_may (has vlan.members to) _ _ _ (and_parts may _ (and_parts leaves _ both).0).0;
      form = (and_parts leaves (has vlan.untagged to) both).1;
    }

member_of : (v : Event) (table : List StationBucket) (to : ℕ) (frame sent : List ℕ) (p : Passes v table to frame sent)
    → (s : Sent v p.received) → has v.settings.ports.mirrors to ≡ false
    → LeavesBy p.received to (front_of v.settings.kind v.hs) frame v.hs p.ending sent
    → has (vlan_at v s.a.vlan).members to ≡ true
member_of v table to frame sent p s mirror (inl l) =
    (tagged_of v p.received s to p.is_port mirror l.0).member
member_of v table to frame sent p s mirror (inr l) = (untagged_of v p.received s to p.is_port l.0).member

-- ---- one bridge

-- the header and the tag with which it leaves
named_in : (v : Event) (table : List StationBucket) (to : ℕ) (frame sent : List ℕ) (ks : List Header) (e : Ending)
    → (p : Passes v table to frame sent) → (s : Sent v p.received) → Walk (start_of starts.Ethernet2) sent ks e
    → LeavesTagged p.received (front_of v.settings.kind v.hs) frame v.hs p.ending sent
    → Named p.received (front_of v.settings.kind v.hs) ks
named_in v table to frame sent ks e p s found l =
    let same = s.answer.kind in
    subst (λ (k : BridgeKind). Named p.received (front_of k v.hs) ks) same
    (tagged_named p.received frame sent v.hs ks p.ending e p.bytes p.walk found
    (subst (λ (k : BridgeKind). LeavesTagged p.received (front_of k v.hs) frame v.hs p.ending sent) (sym same) l))

isolated_by : (v : Event) (table : List StationBucket) (to : ℕ) (frame sent : List ℕ) (hs : List Header) (e : Ending)
    → (p : Passes v table to frame sent) → (s : Sent v p.received) → has v.settings.ports.mirrors to ≡ false
    → Walk (start_of starts.Ethernet2) sent hs e
    → LeavesBy p.received to (front_of v.settings.kind v.hs) frame v.hs p.ending sent
    → SendsIn (vlan_at v s.a.vlan) to p.received.vlan hs
isolated_by v table to frame sent hs e p s mirror found (inl l) =
    let is = tagged_of v p.received s to p.is_port mirror l.0 in
    let named = named_in v table to frame sent hs e p s found l.1 in (
      is.member,
      match_false (has (vlan_at v s.a.vlan).untagged to) _ _ (sym is.form)
          (subst (λ (o : Option VlanValue). IsSomeAnd o (λ (t : VlanValue). t.vid ≡ p.received.vlan))
          (sym named.tag_is) named.vid_is),
    )
isolated_by v table to frame sent hs e p s mirror found (inr l) =
    let is = untagged_of v p.received s to p.is_port l.0 in
    (is.member, match_true (has (vlan_at v s.a.vlan).untagged to) _ _ (sym is.form) tt)

pub vlans_are_isolated : VlansAreIsolated
vlans_are_isolated v table to frame sent hs e p mirror found =
    let s = sent_by v table to frame sent p in
    subst (λ (vid : ℕ). SendsIn (vlan_at v vid) to p.received.vlan hs) (sym s.answer.vlan)
    (isolated_by v table to frame sent hs e p s mirror found p.leaves)

-- ---- bridges that are joined

-- a frame has no second tag
abbrev Plain : Event → Type 0
Plain v = (f : Front) → front_of v.settings.kind v.hs ≡ Ok f → has_second_tag v.settings.kind f ≡ false

-- it comes in in this VLAN
abbrev ComesIn : Event → ℕ → Type 0
ComesIn v vid = (f : Front) → front_of v.settings.kind v.hs ≡ Ok f → vlan_of v.port.pvid f ≡ Some vid

none_if : (b : Bool) (x : Discarded) (o : Option Discarded) → (if b then Some x else o) ≡ None
    → (b ≡ false) × (o ≡ None)
none_if true x o e = absurd cc
none_if false x o e = (refl, e)

only_right : (a b : Bool) → a ≡ true → (a && b) ≡ false → b ≡ false
only_right true b is e = e
only_right false b is e = absurd cc

no_tag_taken : (kind : BridgeKind) (t : Option VlanValue) (types : AcceptableFrames) → types ≡ OnlyUntagged
    → not (admits types (tagging_by t)) ≡ false → second_tag_by kind t ≡ false
no_tag_taken kind None types is e = refl
no_tag_taken kind (Some t) types is e =
    absurd (never (nat_eq t.vid 0)
    (ap (λ (x : AcceptableFrames). not (admits x (tagging_by (Some t)))) (sym is) ∙ e))
  where
    never : (b : Bool) → not (admits OnlyUntagged (if b then PriorityTagged else VlanTagged)) ≡ false → ⊥
    never true e = cc
    never false e = cc

plain_by : (v : Event) (f : Front) (a : Arrived) → HasNoSecondTag v.port → refused_in v f a ≡ None
    → has_second_tag v.settings.kind f ≡ false
plain_by v f a (inl refuses) taken =
    let first = none_if (not (admits v.port.frame_types (tagging_of f))) FrameType _ taken in
    let second = none_if (v.port.refuses_second_tag && has_second_tag v.settings.kind f) SecondTag _ first.1 in
    only_right v.port.refuses_second_tag (has_second_tag v.settings.kind f) refuses second.0
plain_by v f a (inr types) taken =
    let first = none_if (not (admits v.port.frame_types (tagging_of f))) FrameType _ taken in
    no_tag_taken v.settings.kind f.tag v.port.frame_types types first.0

-- an identifier of a VLAN
abbrev IsVid : ℕ → Type 0
IsVid vid = (vid ≢ 0) × (vid ≢ 4095)

vid_by : (pvid vid : ℕ) (t : Option VlanValue) → 1 ≤ pvid → pvid ≤ 4094 → vlan_by pvid t ≡ Some vid → IsVid vid
vid_by pvid vid None least most is =
    let same : pvid ≡ vid = cc in (λ e. omega (arith, e, same, least), λ e. omega (arith, e, same, most))
vid_by pvid vid (Some t) least most is = choice (nat_eq t.vid 0) (nat_eq t.vid 4095) refl refl is
  where
    choice : (b c : Bool) → nat_eq t.vid 0 ≡ b → nat_eq t.vid 4095 ≡ c
        → (if b then Some pvid else (if c then None else Some t.vid)) ≡ Some vid → IsVid vid
    choice true c zero all e =
        let same : pvid ≡ vid = cc in (λ z. omega (arith, z, same, least), λ z. omega (arith, z, same, most))
    choice false true zero all e = absurd cc
    choice false false zero all e =
        let same : t.vid ≡ vid = cc in
        (λ z. eqb-false t.vid 0 zero (same ∙ z), λ z. eqb-false t.vid 4095 all (same ∙ z))

vlan_named : (pvid vid : ℕ) (t : VlanValue) → t.vid ≡ vid → IsVid vid → vlan_by pvid (Some t) ≡ Some vid
vlan_named pvid vid t is ok =
    ap (λ (b : Bool). if b then Some pvid else (if nat_eq t.vid 4095 then None else Some t.vid))
    (ne_eqb t.vid 0 (λ e. ok.0 (sym is ∙ e)))
    ∙ ap (λ (b : Bool). if b then None else Some t.vid) (ne_eqb t.vid 4095 (λ e. ok.1 (sym is ∙ e)))
    ∙ ap Some is

-- what is true of each bridge on the way
abbrev Safe : Hop → List Hop → Type 0
Safe h later = Plain h.event ⊎ AllTagged h later

first_walk : (h : Hop) (later : List Hop) (frame sent : List ℕ) → Travels h later frame sent
    → (e : Ending) × Walk (start_of starts.Ethernet2) frame h.event.hs e
first_walk h [] frame sent p = (p.ending, p.walk)
first_walk h (next ∷ later) frame sent t = (t.1.ending, t.1.walk)

record Onward (vid : ℕ) (next : Hop) (later : List Hop) : Type 0 where
  comes : ComesIn next.event vid
  safe : Safe next later

-- what a frame begins with that comes in
only_front : (v : Event) (kind : BridgeKind) (f g : Front) → v.settings.kind ≡ kind → front_of kind v.hs ≡ Ok f
    → front_of v.settings.kind v.hs ≡ Ok g → f ≡ g
only_front v kind f g same is found =
    let one : Ok f ≡ Ok g = sym is ∙ sym (ap (λ (k : BridgeKind). front_of k v.hs) same) ∙ found in cc

onward_tagged : (h next : Hop) (later : List Hop) (vid : ℕ) (r : Received) (f : Front) → IsVid vid → r.vlan ≡ vid
    → r.kind ≡ h.event.settings.kind → next.event.settings.kind ≡ r.kind
    → front_of h.event.settings.kind h.event.hs ≡ Ok f
    → Named r (front_of h.event.settings.kind h.event.hs) next.event.hs → Safe h (next ∷ later)
    → Onward vid next later
onward_tagged h next later vid r f ok vlan kind same front named safe = record {
  comes = λ g is.
      let one = only_front next.event r.kind _ g same named.front_is is in
      ap (λ (x : Front). vlan_of next.event.port.pvid x) (sym one)
      ∙ vlan_named next.event.port.pvid vid named.tag (named.vid_is ∙ vlan) ok;
  safe = onward safe;
}
  where
    onward : Safe h (next ∷ later) → Safe next later
    onward (inr all) = inr all.1
    onward (inl plain) =
        inl (λ g is.
        let one = only_front next.event r.kind _ g same named.front_is is in
        let no_second : has_second_tag r.kind f ≡ false =
        ap (λ (k : BridgeKind). has_second_tag k f) kind ∙ plain f front in
        (λ i. has_second_tag (same i) (sym one i)) ∙ named.plain f front no_second)

onward_bare : (next : Hop) (later : List Hop) (vid : ℕ) (kind : BridgeKind) → next.event.settings.kind ≡ kind
    → next.event.port.pvid ≡ vid → Bare kind next.event.hs → Onward vid next later
onward_bare next later vid kind same native bare = record {
  comes = λ g is.
      let one = only_front next.event kind _ g same bare.front_is is in
      ap (λ (x : Front). vlan_of next.event.port.pvid x) (sym one) ∙ ap Some native;
  safe = inl (λ g is.
      let one = only_front next.event kind _ g same bare.front_is is in
      ap (λ (x : Front). has_second_tag next.event.settings.kind x) (sym one));
}

onward_untagged : (h next : Hop) (later : List Hop) (vid : ℕ) (frame between : List ℕ) (e : Ending) (f : Front)
    → (p : Passes h.event h.table h.to frame between) → Fits h next → has (vlan_at h.event vid).untagged h.to ≡ true
    → front_of h.event.settings.kind h.event.hs ≡ Ok f
    → Walk (start_of starts.Ethernet2) between next.event.hs e
    → LeavesUntagged (front_of h.event.settings.kind h.event.hs) frame h.event.hs p.ending between
    → Safe h (next ∷ later) → Onward vid next later
onward_untagged h next later vid frame between e f p fits form front found l (inl plain) =
    onward_bare next later vid h.event.settings.kind fits.kind (fits.native vid form)
    (untagged_bare h.event.settings.kind frame between h.event.hs next.event.hs p.ending e f p.walk found front
    (plain f front) l)
onward_untagged h next later vid frame between e f p fits form front found l (inr all) =
    let both : true ≡ false = sym form ∙ all.0 vid in absurd cc

same_some : (m n : ℕ) → Some m ≡ Some n → m ≡ n
same_some m n e = cc

onward : (h next : Hop) (later : List Hop) (vid : ℕ) (frame between : List ℕ) (e : Ending)
    → (p : Passes h.event h.table h.to frame between) → (s : Sent h.event p.received) → IsVid vid → s.a.vlan ≡ vid
    → Fits h next → Walk (start_of starts.Ethernet2) between next.event.hs e → Safe h (next ∷ later)
    → LeavesBy p.received h.to (front_of h.event.settings.kind h.event.hs) frame h.event.hs p.ending between
    → Onward vid next later
onward h next later vid frame between e p s ok vlan fits found safe (inl l) =
    onward_tagged h next later vid p.received s.f ok (s.answer.vlan ∙ vlan) s.answer.kind
    (fits.kind ∙ sym s.answer.kind) s.front_is
    (named_in h.event h.table h.to frame between next.event.hs e p s found l.1)
    safe
onward h next later vid frame between e p s ok vlan fits found safe (inr l) =
    let is = untagged_of h.event p.received s h.to p.is_port l.0 in
    onward_untagged h next later vid frame between e s.f p fits
    (sym (ap (λ (n : ℕ). has (vlan_at h.event n).untagged h.to) vlan) ∙ is.form) s.front_is found l.1 safe

on_the_way : (h : Hop) (later : List Hop) (vid : ℕ) (frame sent : List ℕ) → IsVid vid → ComesIn h.event vid
    → Safe h later → AllFit h later → Travels h later frame sent
    → has (last_hop h later).event.settings.ports.mirrors (last_hop h later).to ≡ false
    → has (vlan_at (last_hop h later).event vid).members (last_hop h later).to ≡ true
on_the_way h [] vid frame sent ok comes safe fit p mirror =
    let s = sent_by h.event h.table h.to frame sent p in
    let vlan = same_some s.a.vlan vid (sym s.vlan_is ∙ comes s.f s.front_is) in
    sym (ap (λ (n : ℕ). has (vlan_at h.event n).members h.to) vlan)
    ∙ member_of h.event h.table h.to frame sent p s mirror p.leaves
on_the_way h (next ∷ later) vid frame sent ok comes safe fit t mirror =
    let p = t.1 in
    let s = sent_by h.event h.table h.to frame t.0 p in
    let vlan = same_some s.a.vlan vid (sym s.vlan_is ∙ comes s.f s.front_is) in
    let found = first_walk next later t.0 sent t.2 in
    let o = onward h next later vid frame t.0 found.0 p s ok vlan fit.0 found.1 safe p.leaves in
    on_the_way next later vid t.0 sent ok o.comes o.safe fit.1 t.2 mirror

-- the first bridge
first_pass : (h : Hop) (later : List Hop) (frame sent : List ℕ) → Travels h later frame sent
    → (between : List ℕ) × Passes h.event h.table h.to frame between
first_pass h [] frame sent p = (sent, p)
first_pass h (next ∷ later) frame sent t = (t.0, t.1)

start_safe : (h : Hop) (later : List Hop) (r : Received) → (s : Sent h.event r)
    → HasNoSecondTag h.event.port ⊎ AllTagged h later → Safe h later
start_safe h later r s (inr all) = inr all
start_safe h later r s (inl no_second) =
    inl (λ g is.
    let one = only_front h.event h.event.settings.kind s.f g refl s.front_is is in
    ap (has_second_tag h.event.settings.kind) (sym one) ∙ plain_by h.event s.f s.a no_second s.taken)

pub vlans_are_isolated_over_links : VlansAreIsolatedOverLinks
vlans_are_isolated_over_links h later frame sent least most fit safe t mirror =
    let p = first_pass h later frame sent t in
    let s = sent_by h.event h.table h.to frame p.0 p.1 in
    let comes : ComesIn h.event s.a.vlan =
    λ g is. ap (vlan_of h.event.port.pvid) (sym (only_front h.event h.event.settings.kind s.f g refl s.front_is is))
    ∙ s.vlan_is in
    subst (λ (o : Option ℕ). IsSomeAnd o
    (λ (vid : ℕ). has (vlan_at (last_hop h later).event vid).members (last_hop h later).to ≡ true))
    (sym (ap vlan_in s.arrival_is))
    (on_the_way h later s.a.vlan frame sent (vid_by h.event.port.pvid s.a.vlan s.f.tag least most s.vlan_is) comes
    (start_safe h later p.1.received s safe) fit t mirror)
