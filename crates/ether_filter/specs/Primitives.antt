-- What a primitive says of a packet: by the headers of its one walk, which reads every tag, by the ending of that
-- walk, and by what the capture says of the packet.
use Rattle.std.specs.Prelude.{◌≡◌, ℕ, ◌+◌, ◌-◌, ◌*◌, ◌/◌, ◌%◌, ◌^◌, ◌<◌, ◌≤◌, List, [], ◌∷◌, ◌++◌, Option, Some, None, IsSome, IsTrue, Bool, true, false, nat_eq, ◌||◌}
use Rattle.std.specs.List.{list_any}
use Rattle.std.specs.Option.{option_map}
use Rattle.etherparse.specs.Header.{Header}
use Rattle.etherparse.specs.Header as headers
use Rattle.ether_peel.specs.Grammar.Expectation.{Next, EtherType, next_after}
use Rattle.ether_peel.specs.Grammar.Stack.{Ending}
use Rattle.ether_peel.specs.Grammar.Endings.{refusal_of}
use Rattle.ether_peel.specs.Walker.Start.{next_of}
use Rattle.ether_filter.specs.FieldTests.{field_holds, Frame, frame_holds}
use Rattle.ether_filter.specs.declared.packet.Packet.{Packet}
use Rattle.ether_filter.specs.declared.packet.PacketTime.{PacketTime}
use Rattle.ether_filter.specs.declared.primitive.Primitive.{Primitive}
use Rattle.ether_filter.specs.declared.primitive.Primitive.TheVariants as primitives

-- ---- of a header

abbrev pub is_tag : Header → Bool
is_tag (headers.Vlan v) = true
is_tag _ = false

abbrev pub is_sec_tag : Header → Bool
is_sec_tag (headers.Macsec t) = true
is_sec_tag _ = false

-- an Ethernet II header with this source
abbrev pub is_from : ℕ → Header → Bool
is_from address (headers.Ethernet2 e) = nat_eq address e.source
is_from address (headers.Ethernet2Fcs e) = nat_eq address e.source
is_from address _ = false

-- .. with this destination
abbrev pub is_to : ℕ → Header → Bool
is_to address (headers.Ethernet2 e) = nat_eq address e.destination
is_to address (headers.Ethernet2Fcs e) = nat_eq address e.destination
is_to address _ = false

-- .. whose destination is a group address: the lowest bit of its first byte is 1 (IEEE 802.3, 3.2.3)
abbrev pub is_group : ℕ → Bool
is_group address = nat_eq (address / 2 ^ 40 % 2) 1

abbrev pub is_to_group : Header → Bool
is_to_group (headers.Ethernet2 e) = is_group e.destination
is_to_group (headers.Ethernet2Fcs e) = is_group e.destination
is_to_group _ = false

-- ---- of all headers

-- the identifiers of the VLAN tags, outermost first
abbrev pub vlan_ids : List Header → List ℕ
vlan_ids [] = []
vlan_ids (headers.Vlan v ∷ hs) = v.vid ∷ vlan_ids hs
vlan_ids (h ∷ hs) = vlan_ids hs

-- the ether type that announces the next unit, if one does
abbrev pub ether_type_of : Next → Option ℕ
ether_type_of (EtherType t) = Some t
ether_type_of _ = None

abbrev pub listed : Option ℕ → List ℕ
listed None = []
listed (Some t) = t ∷ []

-- the ether types that are announced at the start and after each header
abbrev pub ether_types : Next → List Header → List ℕ
ether_types next [] = listed (ether_type_of next)
ether_types next (h ∷ hs) = listed (ether_type_of next) ++ ether_types (next_after h) hs

-- ---- of a packet

pub record Walked : Type 0 where
  pub start : Next
  pub headers : List Header
  pub ending : Ending
  pub captured : ℕ
  pub original : ℕ
  pub time : Option ℕ

-- what the capture says of it
abbrev pub frame_in : Walked → Frame
frame_in p = record { captured = p.captured; original = p.original; time = p.time }

-- the number of nanoseconds since the beginning of 1970
abbrev pub nanoseconds_of : PacketTime → ℕ
nanoseconds_of t = t.seconds * 10 ^ 9 + t.nanoseconds

abbrev pub time_of : Packet → Option ℕ
time_of packet = option_map nanoseconds_of packet.time

abbrev pub frame_of : Packet → Frame
frame_of packet =
    record { captured = packet.captured_len; original = packet.original_len; time = time_of packet }

-- a packet with these headers and this ending
abbrev pub walked : Packet → List Header → Ending → Walked
walked packet hs e =
    record {
      start = next_of packet.start;
      headers = hs;
      ending = e;
      captured = packet.captured_len;
      original = packet.original_len;
      time = time_of packet;
    }

-- what each primitive says of it
abbrev pub Matches : Primitive → Walked → Type 0
Matches primitives.Vlan p = IsTrue (list_any is_tag p.headers)
Matches (primitives.VlanId id) p = IsTrue (list_any (nat_eq id) (vlan_ids p.headers))
Matches (primitives.OuterVlan id) p = (inner : List ℕ) × (vlan_ids p.headers ≡ id ∷ inner)
Matches (primitives.InnerVlan id) p =
    (outer : ℕ) × (between : List ℕ) × (vlan_ids p.headers ≡ outer ∷ (between ++ id ∷ []))
Matches primitives.Macsec p = IsTrue (list_any is_sec_tag p.headers)
Matches (primitives.EtherType t) p = IsTrue (list_any (nat_eq t) (ether_types p.start p.headers))
Matches (primitives.Source address) p = IsTrue (list_any (is_from address) p.headers)
Matches (primitives.Destination address) p = IsTrue (list_any (is_to address) p.headers)
Matches (primitives.Host address) p = IsTrue (list_any (λ h. is_from address h || is_to address h) p.headers)
Matches primitives.Broadcast p = IsTrue (list_any (is_to (2 ^ 48 - 1)) p.headers)
Matches primitives.Multicast p = IsTrue (list_any is_to_group p.headers)
Matches primitives.Refused p = IsSome (refusal_of p.ending)
Matches primitives.Cut p = p.captured < p.original
Matches (primitives.Less n) p = p.original ≤ n
Matches (primitives.Greater n) p = n ≤ p.original
Matches (primitives.Field t) p = IsTrue (field_holds t p.headers)
Matches (primitives.Frame t) p = IsTrue (frame_holds t (frame_in p))
