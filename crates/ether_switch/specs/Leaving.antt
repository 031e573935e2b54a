-- In which form a frame leaves a bridge.
use Rattle.std.specs.Prelude.{◌≡◌, ℕ, List, drop, Option, Some, None, Result, Ok, Err, Bool, is_some}
use Rattle.etherparse.specs.Bytes.{bit}
use Rattle.etherparse.specs.Header.{Header}
use Rattle.etherparse.specs.Vlan.{VlanValue}
use Rattle.ether_peel.specs.Grammar.Stack.{Ending}
use Rattle.ether_peel.specs.Walker.Start.{start_of}
use Rattle.ether_peel.specs.declared.start.Start.TheVariants as starts
use Rattle.ether_packet.specs.Popping.{IsPopped}
use Rattle.ether_packet.specs.Pushing.{IsPushed}
use Rattle.ether_packet.specs.Setting.{SetsTag}
use Rattle.ether_switch.specs.declared.arrival.Discarded.{Discarded}
use Rattle.ether_switch.specs.declared.received.Received.{Received}
use Rattle.ether_switch.specs.Arrivals.{Front}
use Rattle.ether_switch.specs.BridgeKinds.{tpid_of}

-- the tag of a frame's VLAN
abbrev pub own_tag : Received → VlanValue
own_tag r = record { pcp = r.priority; dei = bit r.drop_eligible; vid = r.vlan; ether_type = 0 }

-- The frame with the tag of its VLAN: with its own tag, which gets this identifier, or with a tag that is put in.
abbrev pub HasTag : Received → Option VlanValue → (frame : List ℕ) (hs : List Header) (e : Ending) (sent : List ℕ)
    → Type 0
HasTag r (Some tag) frame hs e sent =
    SetsTag (start_of starts.Ethernet2) frame hs e 0 (λ t. record t { vid = r.vlan }) sent
HasTag r None frame hs e sent =
    (buffer : List ℕ) × (drop 4 buffer ≡ frame) × IsPushed (start_of starts.Ethernet2) buffer hs e (own_tag r)
    (tpid_of r.kind) sent

-- the frame without its tag
abbrev pub HasNoTag : Option VlanValue → (frame : List ℕ) (hs : List Header) (e : Ending) (sent : List ℕ) → Type 0
HasNoTag (Some tag) frame hs e sent =
    (popped : VlanValue) × (moved : List ℕ) × IsPopped (start_of starts.Ethernet2) frame hs e popped moved
    × (sent ≡ drop 4 moved)
HasNoTag None frame hs e sent = sent ≡ frame

abbrev pub LeavesTagged : Received → Result Front Discarded → (frame : List ℕ) (hs : List Header) (e : Ending)
    (sent : List ℕ) → Type 0
LeavesTagged r (Ok f) frame hs e sent = HasTag r f.tag frame hs e sent
LeavesTagged r (Err reason) frame hs e sent = ⊥

abbrev pub LeavesUntagged : Result Front Discarded → (frame : List ℕ) (hs : List Header) (e : Ending) (sent : List ℕ)
    → Type 0
LeavesUntagged (Ok f) frame hs e sent = HasNoTag f.tag frame hs e sent
LeavesUntagged (Err reason) frame hs e sent = ⊥

-- ---- how it is found

-- whether a frame with this front has a tag
abbrev pub has_tag : Result Front Discarded → Option Bool
has_tag (Ok f) = Some (is_some f.tag)
has_tag (Err reason) = None
