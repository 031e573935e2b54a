-- The texts of the errors of Linux cooked capture v1.
use Rattle.std.specs.Prelude.{ℕ, List, ◌++◌, codes}
use Rattle.std.specs.Fmt.{decimal}
use Rattle.ether_base.specs.declared.err.linux_sll.header_error.HeaderError.{HeaderError}
use Rattle.ether_base.specs.declared.err.linux_sll.header_error.HeaderError.TheVariants.{UnsupportedPacketTypeField, UnsupportedArpHardwareId}
use Rattle.ether_base.specs.Enumerations.ArpHardwareId.{shown_arp_hardware_id}

abbrev pub header_error_text : HeaderError → List ℕ
header_error_text (UnsupportedPacketTypeField packet_type) =
    codes "Linux cooked capture v1 (SLL) Header Error: Encountered '"
    ++ (decimal packet_type ++ codes "' as the packet type, but its not supported.")
header_error_text (UnsupportedArpHardwareId arp_hardware_type) =
    codes "Linux cooked capture v1 (SLL)  Header Error:  Encountered '"
    ++ (shown_arp_hardware_id arp_hardware_type.0 ++ codes "' as the ARP harware type, but its not supported.")
