-- What a bridge has read of a frame for which it returns something.
use Rattle.std.proofs.Common.{◌≡◌, ℕ, List, [], Bool, true, false, if◌then◌else◌, Option, Some, None, Result, Ok, Err, is_ok, refl, ap, ◌∙◌}
use Rattle.etherparse.specs.Header.{Header}
use Rattle.ether_peel.specs.Grammar.Stack.{Ending}
use Rattle.ether_switch.specs.declared.arrival.Discarded.{Discarded}
use Rattle.ether_switch.specs.declared.arrival.Discarded.TheVariants.{Source, PortState}
use Rattle.ether_switch.specs.declared.bridge_kind.BridgeKind.{BridgeKind}
use Rattle.ether_switch.specs.declared.received.Received.{Received}
use Rattle.ether_switch.specs.declared.stations.StationBucket.{StationBucket}
use Rattle.ether_switch.specs.Arrivals.{Front, front_of, vlan_of, is_station, arrived, arrival_in}
use Rattle.ether_switch.specs.Ports.{has}
use Rattle.ether_switch.specs.Relaying.{Settings, Event, Answer, Returns, is_for_bridge, unless_refused, with_front, arrival_by, answer_arrival, answer, after}
use Rattle.example_switch.specs.Lines.{HasLines, Answers}

by_state : (b : Bool) (a : Answer) (r : Received) → Returns (if b then Ok a else Err PortState) (Ok r)
    → r.kind ≡ a.kind
by_state true a r is = is.kind
by_state false a r is = absurd is

by_refusal : (s : Settings) (from : ℕ) (refused : Option Discarded) (a : Answer) (r : Received)
    → Returns (unless_refused s from refused a) (Ok r) → r.kind ≡ a.kind
by_refusal s from None a r is = by_state (has s.ports.forwarding from) a r is
by_refusal s from (Some reason) a r is = absurd is

by_address : (s : Settings) (from : ℕ) (refused : Option Discarded) (kind : BridgeKind) (kept other : Answer)
    (r : Received) (b : Bool) → kept.kind ≡ kind → other.kind ≡ kind
    → Returns (if b then Ok kept else unless_refused s from refused other) (Ok r) → r.kind ≡ kind
by_address s from refused kind kept other r true k o is = is.kind ∙ k
by_address s from refused kind kept other r false k o is = by_refusal s from refused other r is ∙ o

by_source : (v : Event) (f : Front) (vid : ℕ) (b : Bool) (table : List StationBucket) (r : Received)
    → Returns (answer_arrival v (with_front f (if b then Ok (arrived v.port f vid) else Err Source)) table) (Ok r)
    → r.kind ≡ v.settings.kind
by_source v f vid true table r is =
    by_address v.settings v.from _ v.settings.kind _ _ r (is_for_bridge v.settings f.link.destination) refl refl is
by_source v f vid false table r is = absurd is

by_vlan : (v : Event) (f : Front) (vlan : Option ℕ) (table : List StationBucket) (r : Received)
    → Returns (answer_arrival v (with_front f (arrival_in v.port f vlan)) table) (Ok r) → r.kind ≡ v.settings.kind
by_vlan v f None table r is = absurd is
by_vlan v f (Some vid) table r is = by_source v f vid (is_station f.link.source) table r is

by_front : (v : Event) (x : Result Front Discarded) (table : List StationBucket) (r : Received)
    → Returns (answer_arrival v (arrival_by v.port x) table) (Ok r) → (r.kind ≡ v.settings.kind) × (is_ok x ≡ true)
by_front v (Err reason) table r is = absurd is
by_front v (Ok f) table r is = (by_vlan v f (vlan_of v.port.pvid f) table r is, refl)

-- its header and its tag are whole
pub has_front : (v : Event) (table : List StationBucket) (r : Received) → Returns (answer v table) (Ok r)
    → is_ok (front_of r.kind v.hs) ≡ true
has_front v table r is =
    let (kind, whole) = by_front v (front_of v.settings.kind v.hs) (after v table) r is in
    ap (λ (k : BridgeKind). is_ok (front_of k v.hs)) kind ∙ whole

pub answers : (a : Result Answer Discarded) (r : Received) (frame : List ℕ) (hs : List Header) (e : Ending)
    (text : List ℕ) → Returns a (Ok r) → HasLines r frame hs e 0 text → Answers a frame hs e text
answers (Ok a) r frame hs e text is lines = (r, is, lines)
answers (Err reason) r frame hs e text is lines = absurd is

pub answers_nothing : (a : Result Answer Discarded) (reason : Discarded) (frame : List ℕ) (hs : List Header)
    (e : Ending) (text : List ℕ) → Returns a (Err reason) → text ≡ [] → Answers a frame hs e text
answers_nothing (Ok a) reason frame hs e text is none = absurd is
answers_nothing (Err other) reason frame hs e text is none = none
