-- What a packet's getters return: its tags, the payload after them, and the shortest cut that keeps its headers.
use Rattle.std.specs.Prelude.{◌≡◌, ℕ, ◌-◌, ◌<◌, ◌≤◌, List, [], ◌∷◌, length, take, slice_get, Option, Some, None, MatchOption, Bool, false, IsTrue, ◌↔◌}
use Rattle.std.specs.List.{filter_map}
use Rattle.etherparse.specs.Types.EtherPayloadSlice.{EtherPayloadSlice}
use Rattle.etherparse.specs.Types.LinkExtSlice.{LinkExtSlice}
use Rattle.etherparse.specs.Types.LinkSlice.{LinkSlice}
use Rattle.etherparse.specs.Types.VlanSlice.{VlanSlice}
use Rattle.etherparse.specs.Types.VlanSlice.TheVariants as tags
use Rattle.etherparse.specs.Bytes.{IsBytes}
use Rattle.etherparse.specs.Header.{Header}
use Rattle.etherparse.specs.Header as headers
use Rattle.etherparse.specs.LinuxSllProtocolType.{told_ether_type}
use Rattle.etherparse.specs.Link.{link_protocol, link_source, link_payload}
use Rattle.etherparse.specs.LinkExt.{HoldsExtPayload}
use Rattle.ether_peel.specs.Grammar.Expectation.{Expectation, has_fcs}
use Rattle.ether_peel.specs.Grammar.Stack.{Ending, Walk}
use Rattle.ether_peel.specs.Grammar.Endings.{refusal_of}
use Rattle.ether_packet.specs.declared.packet_slice.PacketSlice.{PacketSlice}
use Rattle.ether_packet.specs.PacketUnit.{PacketUnit}
use Rattle.ether_packet.specs.Views.{exts_of, vlan_of_unit, macsec_of_unit, ViewsTag}
use Rattle.ether_packet.specs.Packet.{packet_headers, IsPacket}

-- ---- tags

abbrev pub vid_of : Header → Option ℕ
vid_of (headers.Vlan v) = Some v.vid
vid_of _ = None

-- the identifiers of the VLAN tags among headers, in order
abbrev pub vlan_ids_of : List Header → List ℕ
vlan_ids_of hs = filter_map vid_of hs

-- the bytes of the VLAN tags with their payloads, in order
abbrev pub vlans_of : List PacketUnit → List (List ℕ)
vlans_of us = filter_map vlan_of_unit us

-- the first VLAN tag, or the first two if there are several
abbrev pub first_tags : List (List ℕ) → Option VlanSlice
first_tags [] = None
first_tags (tag ∷ []) = Some (tags.SingleVlan tag)
first_tags (outer ∷ inner ∷ later) = Some (tags.DoubleVlan (record { outer = outer; inner = inner }))

-- the bytes of the SecTags with their payloads, in order
abbrev pub sec_tags_of : List PacketUnit → List (List ℕ)
sec_tags_of us = filter_map macsec_of_unit us

-- ---- payloads

-- the payload of a link's header with its ether type, if its protocol is an ether type
abbrev pub HoldsLinkPayload : LinkSlice → Option EtherPayloadSlice → Type 0
HoldsLinkPayload link result =
    MatchOption result (told_ether_type (link_protocol link) ≡ None)
    (λ p. (told_ether_type (link_protocol link) ≡ Some p.ether_type.0)
    × (p.len_source ≡ link_source link) × (p.payload.now ≡ link_payload link))

-- the last extension
abbrev pub last_ext : List PacketUnit → Option PacketUnit
last_ext us = slice_get (exts_of us) (length (exts_of us) - 1)

-- the payload of the last extension, or of the link's header if there is no extension
abbrev pub HoldsPayload : Option LinkSlice → Option PacketUnit → Option EtherPayloadSlice → Type 0
HoldsPayload link (Some u) result = (tag : LinkExtSlice) × ViewsTag u.kind u.bytes tag × HoldsExtPayload tag result
HoldsPayload (Some link) None result = HoldsLinkPayload link result
HoldsPayload None None result = result ≡ None

-- ---- cuts

-- a cut of a list with the headers hs keeps them all if it has at least n bytes, and loses at least one if it has
-- fewer
pub record IsLeastSnap (start : Expectation) (list : List ℕ) (hs : List Header) (n : ℕ) : Type 0 where
  pub inside : n ≤ length list
  pub keeps : (m : ℕ) (ks : List Header) (f : Ending) → n ≤ m → m ≤ length list
      → Walk start (take m list) ks f → ks ≡ hs
  pub loses : (m : ℕ) (ks : List Header) (f : Ending) → m < n
      → Walk start (take m list) ks f → length ks < length hs

-- this holds for each list that has the packet, if it has no frame check sequence
abbrev pub SnapsAt : PacketSlice → ℕ → Type 0
SnapsAt p n =
    (start : Expectation) (list : List ℕ)
    → IsBytes list → has_fcs start ≡ false → IsPacket start list p
    → IsLeastSnap start list (packet_headers p) n

-- ---- faults

-- this is true exactly if the walk of each list that has the packet ends accepted
abbrev pub TellsAccepted : PacketSlice → Bool → Type 0
TellsAccepted p complete =
    (start : Expectation) (list : List ℕ) (is : IsPacket start list p)
    → IsTrue complete ↔ (refusal_of is.ending ≡ None)
