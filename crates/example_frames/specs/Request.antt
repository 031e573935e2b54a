-- ARP requests in a VLAN, by the headers in the walk of a frame.
use Rattle.std.specs.Prelude.{◌≡◌, ℕ, List, [], ◌∷◌, None}
use Rattle.etherparse.specs.Bytes.{number}
use Rattle.etherparse.specs.Ethernet2.{Ethernet2Value}
use Rattle.etherparse.specs.Vlan.{VlanValue}
use Rattle.etherparse.specs.Arp.{ArpValue}
use Rattle.etherparse.specs.Header.{Header}
use Rattle.etherparse.specs.Header as headers
use Rattle.etherparse.specs.Types.Layer.TheVariants as layers
use Rattle.etherparse.specs.Types.SliceWriteSpaceError.{SliceWriteSpaceError}
use Rattle.etherparse.specs.WriteFront.{IsRefusedSpace}
use Rattle.ether_peel.specs.Grammar.Window.{Window, within}
use Rattle.ether_peel.specs.Grammar.Expectation.{AfterArp}
use Rattle.ether_peel.specs.Grammar.Stack.{Accepted, Walk}
use Rattle.ether_peel.specs.Walker.Start.{start_of}
use Rattle.ether_peel.specs.declared.start.Start.TheVariants as starts

-- a header from a station to all stations, which announces a VLAN tag (0x8100)
abbrev pub broadcast_from : List ℕ → Ethernet2Value
broadcast_from mac = record { destination = 0xFFFFFFFFFFFF; source = number mac; ether_type = 0x8100 }

-- a tag of the lowest priority, which announces an ARP packet (0x0806)
abbrev pub in_vlan : ℕ → VlanValue
in_vlan vlan_id = record { pcp = 0; dei = 0; vid = vlan_id; ether_type = 0x0806 }

-- the request: which station has the target's IPv4 address?
abbrev pub asks : (mac ipv4 target : List ℕ) → ArpValue
asks mac ipv4 target = record {
  hardware_type = 1;
  protocol_type = 0x0800;
  operation = 1;
  sender_hardware = mac;
  sender_protocol = ipv4;
  target_hardware = 0 ∷ 0 ∷ 0 ∷ 0 ∷ 0 ∷ 0 ∷ [];
  target_protocol = target;
}

abbrev pub request : (vlan_id : ℕ) (mac ipv4 target : List ℕ) → List Header
request vlan_id mac ipv4 target =
    headers.Ethernet2 (broadcast_from mac) ∷ headers.Vlan (in_vlan vlan_id) ∷ headers.Arp (asks mac ipv4 target) ∷ []

-- The walk of a list that begins with an Ethernet II header has the three headers of a request, and nothing is left
-- after them.
pub record IsRequest (vlan_id : ℕ) (mac ipv4 target list : List ℕ) : Type 0 where
  pub window : Window
  pub walk : Walk (start_of starts.Ethernet2) list (request vlan_id mac ipv4 target)
      (Accepted window (record { next = AfterArp; limit = None }))
  pub left : within list window ≡ []

-- the target is shorter than a request, with all four fields of the error
abbrev pub IsTooShort : List ℕ → SliceWriteSpaceError → Type 0
IsTooShort target e = IsRefusedSpace 46 layers.EtherPayload target e
