-- The lines that a walk is printed as, each ended by a line feed.
use Rattle.std.specs.Prelude.{ℕ, ◌+◌, ◌-◌, List, [], ◌∷◌, ◌++◌, length, slice_range, codes, Option, Some, None, Bool, true, false}
use Rattle.std.specs.Fmt.{decimal}
use Rattle.etherparse.specs.Bytes.{spelled}
use Rattle.etherparse.specs.Ethernet2.{Ethernet2Value}
use Rattle.etherparse.specs.Vlan.{VlanValue}
use Rattle.etherparse.specs.Types.LinuxSllProtocolType.{LinuxSllProtocolType}
use Rattle.etherparse.specs.Types.LinuxSllProtocolType.TheVariants as protocols
use Rattle.etherparse.specs.LinuxSll.{LinuxSllValue}
use Rattle.etherparse.specs.Macsec.{SecTagValue, PayloadType}
use Rattle.etherparse.specs.Macsec as payloads
use Rattle.etherparse.specs.Arp.{ArpValue}
use Rattle.etherparse.specs.Header.{Header}
use Rattle.etherparse.specs.Header as headers
use Rattle.etherparse.specs.Refusal.{Refusal, Length, UnsupportedPacketType, UnsupportedHardwareType, UnexpectedVersion, InvalidShortLen}
use Rattle.etherparse.specs.NumberText.{hex_number}
use Rattle.ether_output.specs.HexText.{hex_text}
use Rattle.ether_output.specs.Words.{source_text}
use Rattle.ether_peel.specs.Grammar.Window.{Window, payload}
use Rattle.ether_peel.specs.Grammar.Expectation.{Next, Expectation, Start, EtherType, Sll, Sealed, AfterArp}
use Rattle.ether_peel.specs.Grammar.Stack.{Ending, Accepted, Fault}

-- ---- words

-- the words one after the other, with a space between two
abbrev pub spaced : List (List ℕ) → List ℕ
spaced [] = []
spaced (word ∷ []) = word
spaced (word ∷ next ∷ words) = word ++ (codes " " ++ spaced (next ∷ words))

abbrev pub mark_text : Bool → List ℕ
mark_text false = codes "open"
mark_text true = codes "closed"

unfoldable pub sci_text : Option ℕ → List ℕ
sci_text None = codes "-"
sci_text (Some sci) = hex_text (spelled 8 sci)

unfoldable pub payload_type_text : PayloadType → List ℕ
payload_type_text (payloads.Unmodified ether_type) = codes "unmodified " ++ hex_number ether_type
payload_type_text payloads.Modified = codes "modified"
payload_type_text payloads.EncryptedUnmodified = codes "encrypted_unmodified"
payload_type_text payloads.Encrypted = codes "encrypted"

-- ---- a unit

unfoldable pub ethernet2_text : ℕ → Ethernet2Value → List ℕ
ethernet2_text start e =
    spaced (codes "ethernet2" ∷ decimal start ∷ hex_text (spelled 6 e.destination) ∷ hex_text (spelled 6 e.source)
    ∷ hex_number e.ether_type ∷ [])

unfoldable pub ethernet2_fcs_text : ℕ → Ethernet2Value → List ℕ → List ℕ
ethernet2_fcs_text start e fcs =
    spaced (codes "ethernet2" ∷ decimal start ∷ hex_text (spelled 6 e.destination) ∷ hex_text (spelled 6 e.source)
    ∷ hex_number e.ether_type ∷ codes "fcs" ∷ hex_text fcs ∷ [])

unfoldable pub linux_sll_text : ℕ → LinuxSllValue → List ℕ
linux_sll_text start s =
    spaced (codes "linux_sll" ∷ decimal start ∷ codes "packet" ∷ decimal s.packet_type ∷ codes "hw"
    ∷ decimal s.hardware_type ∷ codes "alen" ∷ decimal s.address_len ∷ codes "addr" ∷ hex_text (spelled 8 s.address)
    ∷ hex_number s.protocol ∷ [])

unfoldable pub vlan_text : ℕ → VlanValue → List ℕ
vlan_text start v =
    spaced (codes "vlan" ∷ decimal start ∷ codes "pcp" ∷ decimal v.pcp ∷ codes "dei" ∷ decimal v.dei ∷ codes "vid"
    ∷ decimal v.vid ∷ hex_number v.ether_type ∷ [])

-- with the length and the mark of the payload's window
unfoldable pub macsec_text : ℕ → SecTagValue → (len : ℕ) → (closed : Bool) → List ℕ
macsec_text start t len closed =
    spaced (codes "macsec" ∷ decimal start ∷ payload_type_text t.payload_type ∷ codes "es" ∷ decimal t.end_station
    ∷ codes "scb" ∷ decimal t.single_copy_broadcast ∷ codes "an" ∷ decimal t.association_number ∷ codes "sl"
    ∷ decimal t.short_len
    ∷ codes "pn" ∷ decimal t.packet_number ∷ codes "sci" ∷ sci_text t.sci ∷ codes "window" ∷ decimal len
    ∷ mark_text closed ∷ [])

unfoldable pub arp_text : ℕ → ArpValue → List ℕ
arp_text start a =
    spaced (codes "arp" ∷ decimal start ∷ codes "hw" ∷ decimal a.hardware_type ∷ codes "proto"
    ∷ hex_number a.protocol_type ∷ codes "hlen" ∷ decimal (length a.sender_hardware) ∷ codes "plen"
    ∷ decimal (length a.sender_protocol) ∷ codes "op" ∷ decimal a.operation ∷ [])

-- a unit of the list, with its window; each offset is counted from `at` bytes before the list
unfoldable pub unit_text : (at : ℕ) → List ℕ → Window → Header → List ℕ
unit_text at list w (headers.Ethernet2 e) = ethernet2_text (at + w.start) e
unit_text at list w (headers.Ethernet2Fcs e) =
    ethernet2_fcs_text (at + w.start) e (slice_range list (w.finish - 4) w.finish)
unit_text at list w (headers.LinuxSll s) = linux_sll_text (at + w.start) s
unit_text at list w (headers.Vlan v) = vlan_text (at + w.start) v
unit_text at list w (headers.Macsec t) =
    let inner = payload w (headers.Macsec t) in macsec_text (at + w.start) t (inner.finish - inner.start) inner.closed
unit_text at list w (headers.Arp a) = arp_text (at + w.start) a

-- ---- the ending

-- the protocol of a cooked capture; the last two rows are empty, since these protocols are announced as ether types
unfoldable pub protocol_text : LinuxSllProtocolType → List ℕ
protocol_text (protocols.Ignored n) = codes "sll ignored " ++ hex_number n
protocol_text (protocols.NetlinkProtocolType n) = codes "sll netlink " ++ hex_number n
protocol_text (protocols.GenericRoutingEncapsulationProtocolType n) = codes "sll gre " ++ hex_number n
protocol_text (protocols.EtherType t) = []
protocol_text (protocols.LinuxNonstandardEtherType n) = []

-- The row of a start kind is empty: it announces a unit, so an accepted walk does not end there.
unfoldable pub kind_text : Next → List ℕ
kind_text (Start kind) = []
kind_text (EtherType t) = codes "type " ++ hex_number t
kind_text (Sll protocol) = protocol_text protocol
kind_text Sealed = codes "sealed"
kind_text AfterArp = codes "after_arp"

unfoldable pub rest_text : (at : ℕ) → Window → Expectation → List ℕ
rest_text at w x = spaced (codes "rest" ∷ decimal (at + w.start) ∷ decimal (at + w.finish) ∷ kind_text x.next ∷ [])

unfoldable pub fault_text : (at : ℕ) → Window → Refusal → List ℕ
fault_text at w (Length required len source layer) =
    spaced (codes "fault" ∷ decimal (at + w.start) ∷ mark_text w.closed ∷ codes "length" ∷ decimal required
    ∷ decimal len ∷ source_text source ∷ [])
fault_text at w (UnsupportedPacketType n) =
    spaced (codes "fault" ∷ decimal (at + w.start) ∷ mark_text w.closed ∷ codes "content" ∷ codes "sll_packet_type"
    ∷ decimal n ∷ [])
fault_text at w (UnsupportedHardwareType n) =
    spaced (codes "fault" ∷ decimal (at + w.start) ∷ mark_text w.closed ∷ codes "content" ∷ codes "sll_hardware_type"
    ∷ decimal n ∷ [])
fault_text at w UnexpectedVersion =
    spaced (codes "fault" ∷ decimal (at + w.start) ∷ mark_text w.closed ∷ codes "content" ∷ codes "macsec_version" ∷ [])
fault_text at w InvalidShortLen =
    spaced (codes "fault" ∷ decimal (at + w.start) ∷ mark_text w.closed ∷ codes "content" ∷ codes "macsec_short_len"
    ∷ [])

unfoldable pub ending_text : (at : ℕ) → Ending → List ℕ
ending_text at (Accepted w x) = rest_text at w x
ending_text at (Fault w x r) = fault_text at w r

-- ---- a frame that is fed

-- how often more bytes were asked for, and how many were taken
unfoldable pub feed_text : (refusals taken : ℕ) → List ℕ
feed_text refusals taken =
    spaced (codes "feed" ∷ codes "refusals" ∷ decimal refusals ∷ codes "taken" ∷ decimal taken ∷ [])

-- the line of a fault, if there is one
unfoldable pub fault_line : Ending → List ℕ
fault_line (Accepted w x) = []
fault_line (Fault w x r) = fault_text 0 w r ++ codes "\n"

-- ---- a frame

-- the lines of the units from a window on, each in the payload of the one before it, and the line of the ending
unfoldable pub frame_text : (at : ℕ) → List ℕ → Window → List Header → Ending → List ℕ
frame_text at list w [] e = ending_text at e ++ codes "\n"
frame_text at list w (h ∷ hs) e = (unit_text at list w h ++ codes "\n") ++ frame_text at list (payload w h) hs e
