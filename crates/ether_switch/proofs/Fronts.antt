-- How a frame leaves, by how it begins.
use Rattle.std.proofs.Common.{◌≡◌, ℕ, List, [], ◌∷◌, drop, Bool, true, false, if◌then◌else◌, Option, Some, None, Result, Ok, Err, is_ok, is_some, refl}
use Rattle.etherparse.specs.Ethernet2.{Ethernet2Value}
use Rattle.etherparse.specs.Header.{Header}
use Rattle.etherparse.specs.Header as headers
use Rattle.etherparse.specs.Vlan.{VlanValue}
use Rattle.ether_peel.specs.Grammar.Stack.{Ending}
use Rattle.ether_peel.specs.Walker.Start.{start_of}
use Rattle.ether_peel.specs.declared.start.Start.TheVariants as starts
use Rattle.ether_packet.specs.Front.{link_type}
use Rattle.ether_packet.specs.Popping.{IsPopped}
use Rattle.ether_packet.specs.Pushing.{IsPushed}
use Rattle.ether_packet.specs.Setting.{SetsTag}
use Rattle.ether_switch.specs.declared.arrival.Discarded.{Discarded}
use Rattle.ether_switch.specs.declared.arrival.Discarded.TheVariants.{CutTag}
use Rattle.ether_switch.specs.declared.bridge_kind.BridgeKind.{BridgeKind}
use Rattle.ether_switch.specs.declared.received.Received.{Received}
use Rattle.ether_switch.specs.Arrivals.{Front, front_in, front_of}
use Rattle.ether_switch.specs.BridgeKinds.{tpid_of}
use Rattle.ether_switch.specs.Leaving.{has_tag, own_tag, HasTag, HasNoTag, LeavesTagged, LeavesUntagged}

-- ---- whether it begins as it should

pub front_is_ok : (b : Bool) (front : Result Front Discarded) → Some b ≡ has_tag front → true ≡ is_ok front
front_is_ok b (Ok f) is = refl
front_is_ok b (Err reason) is = absurd cc

pub front_is_none : (front : Result Front Discarded) → None ≡ has_tag front → false ≡ is_ok front
front_is_none (Ok f) is = absurd cc
front_is_none (Err reason) is = refl

no_tag_by : (b : Bool) (e : Ethernet2Value)
    → Some true ≡ has_tag (if b then Err CutTag else Ok (record { link = e; tag = None })) → ⊥
no_tag_by true e is = cc
no_tag_by false e is = cc

no_tag_in : (kind : BridgeKind) (link : Option Ethernet2Value) → Some true ≡ has_tag (front_in kind link None) → ⊥
no_tag_in kind None is = cc
no_tag_in kind (Some e) is = no_tag_by _ e is

-- one with a tag has one after its header
pub has_outer_tag : (kind : BridgeKind) (link : Option Ethernet2Value) (tag : Option VlanValue)
    → Some true ≡ has_tag (front_in kind link tag) → tag ≡ None → ⊥
has_outer_tag kind link None is none = no_tag_in kind link is
has_outer_tag kind link (Some tag) is none = cc

-- and one that begins as it should has an ether type
pub untyped : (kind : BridgeKind) (hs : List Header) → link_type hs ≡ None → false ≡ is_ok (front_of kind hs)
untyped kind [] none = refl
untyped kind (headers.Ethernet2 h ∷ hs) none = absurd cc
untyped kind (headers.Ethernet2Fcs h ∷ hs) none = refl
untyped kind (headers.LinuxSll h ∷ hs) none = refl
untyped kind (headers.Vlan h ∷ hs) none = refl
untyped kind (headers.Macsec h ∷ hs) none = refl
untyped kind (headers.Arp h ∷ hs) none = refl

-- ---- how it leaves

set_tag : (r : Received) (tag : Option VlanValue) (frame : List ℕ) (hs : List Header) (e : Ending) (sent : List ℕ)
    → Some true ≡ Some (is_some tag)
    → SetsTag (start_of starts.Ethernet2) frame hs e 0 (λ t. record t { vid = r.vlan }) sent
    → HasTag r tag frame hs e sent
set_tag r (Some tag) frame hs e sent is sets = sets
set_tag r None frame hs e sent is sets = absurd cc

pub set_leaves : (r : Received) (front : Result Front Discarded) (frame : List ℕ) (hs : List Header) (e : Ending)
    (sent : List ℕ)
    → Some true ≡ has_tag front
    → SetsTag (start_of starts.Ethernet2) frame hs e 0 (λ t. record t { vid = r.vlan }) sent
    → LeavesTagged r front frame hs e sent
set_leaves r (Ok f) frame hs e sent is sets = set_tag r f.tag frame hs e sent is sets
set_leaves r (Err reason) frame hs e sent is sets = absurd cc

put_tag : (r : Received) (tag : Option VlanValue) (buffer : List ℕ) (hs : List Header) (e : Ending) (sent : List ℕ)
    → Some false ≡ Some (is_some tag)
    → IsPushed (start_of starts.Ethernet2) buffer hs e (own_tag r) (tpid_of r.kind) sent
    → HasTag r tag (drop 4 buffer) hs e sent
put_tag r (Some tag) buffer hs e sent is pushed = absurd cc
put_tag r None buffer hs e sent is pushed = (buffer, refl, pushed)

pub put_leaves : (r : Received) (front : Result Front Discarded) (buffer : List ℕ) (hs : List Header) (e : Ending)
    (sent : List ℕ)
    → Some false ≡ has_tag front
    → IsPushed (start_of starts.Ethernet2) buffer hs e (own_tag r) (tpid_of r.kind) sent
    → LeavesTagged r front (drop 4 buffer) hs e sent
put_leaves r (Ok f) buffer hs e sent is pushed = put_tag r f.tag buffer hs e sent is pushed
put_leaves r (Err reason) buffer hs e sent is pushed = absurd cc

take_tag : (tag : Option VlanValue) (frame : List ℕ) (hs : List Header) (e : Ending) (popped : VlanValue)
    (moved : List ℕ)
    → Some true ≡ Some (is_some tag) → IsPopped (start_of starts.Ethernet2) frame hs e popped moved
    → HasNoTag tag frame hs e (drop 4 moved)
take_tag (Some tag) frame hs e popped moved is pops = (popped, moved, pops, refl)
take_tag None frame hs e popped moved is pops = absurd cc

pub take_leaves : (front : Result Front Discarded) (frame : List ℕ) (hs : List Header) (e : Ending) (popped : VlanValue)
    (moved : List ℕ)
    → Some true ≡ has_tag front → IsPopped (start_of starts.Ethernet2) frame hs e popped moved
    → LeavesUntagged front frame hs e (drop 4 moved)
take_leaves (Ok f) frame hs e popped moved is pops = take_tag f.tag frame hs e popped moved is pops
take_leaves (Err reason) frame hs e popped moved is pops = absurd cc

no_tag_left : (tag : Option VlanValue) (frame : List ℕ) (hs : List Header) (e : Ending)
    → Some false ≡ Some (is_some tag) → HasNoTag tag frame hs e frame
no_tag_left (Some tag) frame hs e is = absurd cc
no_tag_left None frame hs e is = refl

pub leaves_as_it_came : (front : Result Front Discarded) (frame : List ℕ) (hs : List Header) (e : Ending)
    → Some false ≡ has_tag front → LeavesUntagged front frame hs e frame
leaves_as_it_came (Ok f) frame hs e is = no_tag_left f.tag frame hs e is
leaves_as_it_came (Err reason) frame hs e is = absurd cc
