-- What a test of a field says of the headers of a packet.
use Rattle.std.specs.Prelude.{ℕ, ◌+◌, ◌-◌, ◌^◌, min, List, length, slice_range, Option, Some, None, Bool, true, false, not, nat_eq, nat_lt, nat_le, codes, bit_and, is_some, unwrap_or, ◌&&◌, if◌then◌else◌}
use Rattle.std.specs.List.{list_any}
use Rattle.std.specs.Option.{option_map}
use Rattle.etherparse.specs.Bytes.{number, spelled}
use Rattle.ether_base.specs.Formats.Ethernet2.{Ethernet2Value}
use Rattle.ether_base.specs.Formats.LinuxSll.{LinuxSllValue}
use Rattle.ether_base.specs.Formats.Vlan.{VlanValue}
use Rattle.ether_base.specs.Formats.Macsec.{SecTagFront, SecTagValue, PayloadType, Unmodified, sec_tag_front_of}
use Rattle.ether_base.specs.Formats.Arp.{ArpValue}
use Rattle.etherparse.specs.Header.{Header}
use Rattle.etherparse.specs.Header as headers
use Rattle.ether_filter.specs.declared.field_test.FieldTest.{FieldTest}
use Rattle.ether_filter.specs.declared.field_test.Relation.{Relation}
use Rattle.ether_filter.specs.declared.field_test.Relation.TheVariants as relations

-- ---- the value that a header gives a field, by the number of the field in the table of fields; 252 is its name

pub data Given : Type 0 where
  Number : ℕ → Given
  Bytes : List ℕ → Given

-- Ethernet II (IEEE 802.3, 3.2.3 to 3.2.6)
abbrev pub ethernet2_gives : ℕ → Ethernet2Value → Option Given
ethernet2_gives field e =
    if nat_eq field 1 then Some (Bytes (spelled 6 e.destination))
    else (if nat_eq field 2 then Some (Bytes (spelled 6 e.source))
    else (if nat_eq field 3 then Some (Number e.ether_type)
    else (if nat_eq field 252 then Some (Bytes (codes "eth")) else None)))

-- Linux cooked capture v1 (LINKTYPE_LINUX_SLL of the tcpdump group)
abbrev pub linux_sll_gives : ℕ → LinuxSllValue → Option Given
linux_sll_gives field s =
    if nat_eq field 4 then Some (Number s.packet_type)
    else (if nat_eq field 5 then Some (Number s.hardware_type)
    else (if nat_eq field 6 then Some (Number s.address_len)
    else (if nat_eq field 7 then Some (Bytes (spelled 8 s.address))
    else (if nat_eq field 8 then Some (Number s.protocol)
    else (if nat_eq field 252 then Some (Bytes (codes "sll")) else None)))))

-- a VLAN tag (IEEE 802.1Q, 9.6)
abbrev pub vlan_gives : ℕ → VlanValue → Option Given
vlan_gives field v =
    if nat_eq field 9 then Some (Number v.pcp)
    else (if nat_eq field 10 then Some (Number v.dei)
    else (if nat_eq field 11 then Some (Number v.vid)
    else (if nat_eq field 12 then Some (Number v.ether_type)
    else (if nat_eq field 252 then Some (Bytes (codes "vlan")) else None))))

-- the ether type after a SecTag, if it can be read
abbrev pub readable : PayloadType → Option ℕ
readable (Unmodified ether_type) = Some ether_type
readable _ = None

-- a SecTag (IEEE 802.1AE, 9.5 to 9.9), without its version and its reserved bits
abbrev pub macsec_gives : ℕ → SecTagFront → SecTagValue → Option Given
macsec_gives field front t =
    if nat_eq field 14 then Some (Number front.end_station)
    else (if nat_eq field 16 then Some (Number front.single_copy_broadcast)
    else (if nat_eq field 17 then Some (Number front.encrypted)
    else (if nat_eq field 18 then Some (Number front.changed)
    else (if nat_eq field 19 then Some (Number front.association_number)
    else (if nat_eq field 21 then Some (Number front.short_len)
    else (if nat_eq field 22 then Some (Number t.packet_number)
    else (if nat_eq field 23 then option_map (λ sci. Bytes (spelled 8 sci)) t.sci
    else (if nat_eq field 24 then option_map Number (readable t.payload_type)
    else (if nat_eq field 252 then Some (Bytes (codes "macsec")) else None)))))))))

-- an ARP packet (RFC 826, "Packet format")
abbrev pub arp_gives : ℕ → ArpValue → Option Given
arp_gives field a =
    if nat_eq field 25 then Some (Number a.hardware_type)
    else (if nat_eq field 26 then Some (Number a.protocol_type)
    else (if nat_eq field 27 then Some (Number (length a.sender_hardware))
    else (if nat_eq field 28 then Some (Number (length a.sender_protocol))
    else (if nat_eq field 29 then Some (Number a.operation)
    else (if nat_eq field 30 then Some (Bytes a.sender_hardware)
    else (if nat_eq field 31 then Some (Bytes a.sender_protocol)
    else (if nat_eq field 32 then Some (Bytes a.target_hardware)
    else (if nat_eq field 33 then Some (Bytes a.target_protocol)
    else (if nat_eq field 252 then Some (Bytes (codes "arp")) else None)))))))))

abbrev pub gives : ℕ → Header → Option Given
gives field (headers.Ethernet2 e) = ethernet2_gives field e
gives field (headers.Ethernet2Fcs e) = ethernet2_gives field e
gives field (headers.LinuxSll s) = linux_sll_gives field s
gives field (headers.Vlan v) = vlan_gives field v
gives field (headers.Macsec t) = macsec_gives field (sec_tag_front_of 0 0 t) t
gives field (headers.Arp a) = arp_gives field a

-- ---- a test

-- the tested part: `count` bytes from the offset `first` on, if they are there, or all bytes; of numbers the whole
abbrev pub part_of : (first count : ℕ) → Given → Option Given
part_of first count (Number n) = Some (Number n)
part_of first count (Bytes bs) =
    if nat_eq count 0 then Some (Bytes bs)
    else (if nat_le (first + count) (length bs) then Some (Bytes (slice_range bs first (first + count))) else None)

-- two numbers are related; for `!=` it is asked whether they are equal
abbrev pub are_related : Relation → ℕ → ℕ → Bool
are_related relations.Exists n m = true
are_related relations.Equal n m = nat_eq n m
are_related relations.NotEqual n m = nat_eq n m
are_related relations.Less n m = nat_lt n m
are_related relations.AtMost n m = nat_le n m
are_related relations.Greater n m = nat_lt m n
are_related relations.AtLeast n m = nat_le m n

-- the bits of the mask are related to the value; bytes only if they are as many as the value has
abbrev pub is_hit : FieldTest → Given → Bool
is_hit t (Number n) = are_related t.relation (bit_and n t.mask) t.value
is_hit t (Bytes bs) =
    nat_eq (length bs) t.len
    && (nat_le (length bs) 8 && are_related t.relation (bit_and (number bs) t.mask) t.value)

abbrev pub hit_if : FieldTest → Option Given → Option Bool
hit_if t None = None
hit_if t (Some given) = option_map (is_hit t) (part_of t.first t.count given)

-- whether what a header gives the tested part is related; none if it gives nothing
abbrev pub hit : FieldTest → Header → Option Bool
hit t h = hit_if t (gives t.field h)

abbrev pub has_value : FieldTest → List Header → Bool
has_value t hs = list_any (λ h. is_some (hit t h)) hs

abbrev pub has_hit : FieldTest → List Header → Bool
has_hit t hs = list_any (λ h. unwrap_or (hit t h) false) hs

abbrev pub answer : Relation → (has_value has_hit : Bool) → Bool
answer relations.Exists some any = some
answer relations.NotEqual some any = some && not any
answer _ some any = any

-- the test holds for these headers
abbrev pub field_holds : FieldTest → List Header → Bool
field_holds t hs = answer t.relation (has_value t hs) (has_hit t hs)

-- ---- what a capture says of a packet (pcapng, 4.3)

-- the two lengths, and the time, if there is one, as the nanoseconds since the beginning of 1970
pub record Frame : Type 0 where
  pub captured : ℕ
  pub original : ℕ
  pub time : Option ℕ

-- a time as a number of 64 bits; the latest of them is later than all times that words can be
abbrev pub as_number : ℕ → Given
as_number time = Number (min time (2 ^ 64 - 1))

-- the value of a field of the packet, which has no number in the table of fields, and these in tests
abbrev pub frame_gives : ℕ → Frame → Option Given
frame_gives field f =
    if nat_eq field 253 then option_map as_number f.time
    else (if nat_eq field 254 then Some (Number f.captured)
    else (if nat_eq field 255 then Some (Number f.original) else None))

-- the answer where there is at most one value
abbrev pub answer_if : Relation → Option Bool → Bool
answer_if relation None = answer relation false false
answer_if relation (Some hit) = answer relation true hit

-- the test holds of the packet
abbrev pub frame_holds : FieldTest → Frame → Bool
frame_holds t f = answer_if t.relation (hit_if t (frame_gives t.field f))
