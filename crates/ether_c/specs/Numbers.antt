-- The numbers that stand for enumerations in C.
use Rattle.std.specs.Prelude.{ℕ, List, [], ◌∷◌, Option, Some, None, nat_eq, if◌then◌else◌}
use Rattle.std.specs.List.{find}
use Rattle.etherparse.specs.Types.LenSource.{LenSource}
use Rattle.etherparse.specs.Types.LenSource.TheVariants as sources
use Rattle.etherparse.specs.Types.Layer.{Layer}
use Rattle.etherparse.specs.Types.Layer.TheVariants as layers
use Rattle.etherparse.specs.Types.LinuxSllProtocolType.{LinuxSllProtocolType}
use Rattle.etherparse.specs.Types.LinuxSllProtocolType.TheVariants as protocols
use Rattle.etherparse.specs.LinuxSllProtocolType.{protocol_number}
use Rattle.ether_peel.specs.declared.start.Start.{Start}
use Rattle.ether_peel.specs.declared.start.Start.TheVariants as starts
use Rattle.ether_peel.specs.declared.rest_kind.RestKind.{RestKind}
use Rattle.ether_peel.specs.declared.rest_kind.RestKind.TheVariants as rests
use Rattle.ether_fields.specs.declared.kind.Kind.{Kind}
use Rattle.ether_fields.specs.declared.kind.Kind.TheVariants as kinds

-- ---- what a call returns

abbrev pub done : ℕ
done = 0

abbrev pub unknown_start : ℕ
unknown_start = 1

abbrev pub no_room : ℕ
no_room = 2

abbrev pub no_text : ℕ
no_text = 3

-- ---- what a frame begins with

-- the start with this number, if there is one; only the fourth uses the ether type
abbrev pub start_numbered : (number ether_type : ℕ) → Option Start
start_numbered number ether_type =
    if nat_eq number 1 then Some starts.Ethernet2
    else (if nat_eq number 2 then Some starts.Ethernet2Fcs
    else (if nat_eq number 3 then Some starts.LinuxSll
    else (if nat_eq number 4 then Some (starts.EtherType (record { 0 = ether_type })) else None)))

-- ---- what is left of a frame

-- a protocol of a cooked capture
abbrev pub protocol_kind_number : LinuxSllProtocolType → ℕ
protocol_kind_number (protocols.Ignored n) = 4
protocol_kind_number (protocols.NetlinkProtocolType n) = 2
protocol_kind_number (protocols.GenericRoutingEncapsulationProtocolType n) = 3
protocol_kind_number (protocols.EtherType t) = 1
protocol_kind_number (protocols.LinuxNonstandardEtherType n) = 1

abbrev pub rest_kind_number : RestKind → ℕ
rest_kind_number rests.Start = 0
rest_kind_number (rests.EtherType t) = 1
rest_kind_number (rests.Sll protocol) = protocol_kind_number protocol
rest_kind_number rests.Sealed = 5
rest_kind_number rests.AfterArp = 6

-- the ether type or protocol number, 0 if there is none
abbrev pub rest_protocol_of : RestKind → ℕ
rest_protocol_of rests.Start = 0
rest_protocol_of (rests.EtherType t) = t.0
rest_protocol_of (rests.Sll protocol) = protocol_number protocol
rest_protocol_of rests.Sealed = 0
rest_protocol_of rests.AfterArp = 0

-- ---- faults

-- the layers that a walk can name; 0 for any other
abbrev pub layer_number : Layer → ℕ
layer_number layers.Ethernet2Header = 1
layer_number layers.LinuxSllHeader = 2
layer_number layers.VlanHeader = 3
layer_number layers.MacsecHeader = 4
layer_number layers.MacsecPacket = 5
layer_number layers.Arp = 6
layer_number _ = 0

-- the sources of a length that a walk can name; 0 for any other
abbrev pub len_source_number : LenSource → ℕ
len_source_number sources.Slice = 1
len_source_number sources.MacsecShortLength = 2
len_source_number sources.ArpAddrLengths = 3
len_source_number _ = 0

-- ---- fields

-- what the value of a field is
abbrev pub field_kind_number : Kind → ℕ
field_kind_number kinds.Number = 1
field_kind_number kinds.Flag = 2
field_kind_number kinds.Truth = 3
field_kind_number kinds.EtherType = 4
field_kind_number kinds.HardwareType = 5
field_kind_number kinds.PacketType = 6
field_kind_number kinds.Operation = 7
field_kind_number kinds.LinkType = 8
field_kind_number kinds.Bytes = 9
field_kind_number kinds.ProtocolAddress = 10
field_kind_number kinds.Word = 11
field_kind_number kinds.Time = 12

abbrev pub field_kinds : List Kind
field_kinds =
    kinds.Number ∷ kinds.Flag ∷ kinds.Truth ∷ kinds.EtherType ∷ kinds.HardwareType ∷ kinds.PacketType
    ∷ kinds.Operation ∷ kinds.LinkType ∷ kinds.Bytes ∷ kinds.ProtocolAddress ∷ kinds.Word ∷ kinds.Time ∷ []

-- the kind with this number, if there is one
abbrev pub field_kind_numbered : ℕ → Option Kind
field_kind_numbered number = find (λ k. nat_eq (field_kind_number k) number) field_kinds
