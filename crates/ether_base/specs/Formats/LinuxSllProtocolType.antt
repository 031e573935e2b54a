-- What the protocol number of a cooked capture means, by the hardware type of its link.
use Rattle.std.specs.Prelude.{ℕ, Option, Some, None, Result, Ok, Err, ◌==◌, if◌then◌else◌}
use Rattle.ether_base.specs.declared.arp_hardware_id.ArpHardwareId.{ArpHardwareId}
use Rattle.ether_base.specs.declared.err.linux_sll.header_error.HeaderError.{HeaderError}
use Rattle.ether_base.specs.declared.err.linux_sll.header_error.HeaderError.TheVariants.{UnsupportedArpHardwareId}
use Rattle.ether_base.specs.declared.linux_sll_protocol_type.LinuxSllProtocolType.{LinuxSllProtocolType}
use Rattle.ether_base.specs.declared.linux_sll_protocol_type.LinuxSllProtocolType.TheVariants.{Ignored, NetlinkProtocolType, GenericRoutingEncapsulationProtocolType, EtherType, LinuxNonstandardEtherType}
use Rattle.ether_base.specs.Enumerations.LinuxNonstandardEtherType.{is_nonstandard}
use Rattle.ether_base.specs.Formats.LinuxSll.{is_supported}

-- on Ethernet a number is one of the nonstandard ones, or else an ether type
abbrev pub ethernet_protocol_type : ℕ → LinuxSllProtocolType
ethernet_protocol_type number =
    if is_nonstandard number then LinuxNonstandardEtherType number else EtherType (record { 0 = number })

-- What it means on a supported link other than Ethernet (LINKTYPE_LINUX_SLL): 824 netlink and 778 GRE over IP give it a
-- meaning, 803 radiotap and 770 frame relay do not.
abbrev pub link_protocol_of : ℕ → ℕ → LinuxSllProtocolType
link_protocol_of hardware number =
    if hardware == 824 then NetlinkProtocolType number
    else (if hardware == 778 then GenericRoutingEncapsulationProtocolType number else Ignored number)

-- what it means on a supported link; 1 is Ethernet
abbrev pub protocol_of : ℕ → ℕ → LinuxSllProtocolType
protocol_of hardware number = if hardware == 1 then ethernet_protocol_type number else link_protocol_of hardware number

abbrev pub protocol_type_of : ArpHardwareId → ℕ → Result LinuxSllProtocolType HeaderError
protocol_type_of hardware number =
    if is_supported hardware.0 then Ok (protocol_of hardware.0 number) else Err (UnsupportedArpHardwareId hardware)

abbrev pub protocol_number : LinuxSllProtocolType → ℕ
protocol_number (Ignored number) = number
protocol_number (NetlinkProtocolType number) = number
protocol_number (GenericRoutingEncapsulationProtocolType number) = number
protocol_number (EtherType ether_type) = ether_type.0
protocol_number (LinuxNonstandardEtherType number) = number

-- the places of the variants in their order
abbrev pub protocol_place : LinuxSllProtocolType → ℕ
protocol_place (Ignored number) = 0
protocol_place (NetlinkProtocolType number) = 1
protocol_place (GenericRoutingEncapsulationProtocolType number) = 2
protocol_place (EtherType ether_type) = 3
protocol_place (LinuxNonstandardEtherType number) = 4

-- the protocol type of the same link with another number
abbrev pub with_number : LinuxSllProtocolType → ℕ → LinuxSllProtocolType
with_number (Ignored old) number = Ignored number
with_number (NetlinkProtocolType old) number = NetlinkProtocolType number
with_number (GenericRoutingEncapsulationProtocolType old) number = GenericRoutingEncapsulationProtocolType number
with_number (EtherType old) number = ethernet_protocol_type number
with_number (LinuxNonstandardEtherType old) number = ethernet_protocol_type number

-- the ether type in a protocol type: its own, or a number that Linux has in the same place
abbrev pub told_ether_type : LinuxSllProtocolType → Option ℕ
told_ether_type (Ignored number) = None
told_ether_type (NetlinkProtocolType number) = None
told_ether_type (GenericRoutingEncapsulationProtocolType number) = None
told_ether_type (EtherType ether_type) = Some ether_type.0
told_ether_type (LinuxNonstandardEtherType number) = Some number
