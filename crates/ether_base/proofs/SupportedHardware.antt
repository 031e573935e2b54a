-- The places of two hardware types in the list of those that are supported.
use Rattle.std.proofs.Common.{◌≡◌, ℕ, sym, ap, arith}
use Rattle.std.specs.Prelude.{Contains}
use Rattle.ether_base.specs.declared.arp_hardware_id.ArpHardwareId.{ArpHardwareId}
use Rattle.ether_base.specs.declared.linux_sll_protocol_type.TheConstants.LinuxSllProtocolType.{SUPPORTED_ARPHWD}

pub radiotap_is_supported : (hardware : ArpHardwareId) → hardware.0 ≡ 803 → Contains SUPPORTED_ARPHWD hardware
radiotap_is_supported hardware e =
    (2, omega arith, (let id : ℕ → ArpHardwareId = λ number. record { 0 = number } in ap id (sym e)))

pub frame_relay_is_supported : (hardware : ArpHardwareId) → hardware.0 ≡ 770 → Contains SUPPORTED_ARPHWD hardware
frame_relay_is_supported hardware e =
    (3, omega arith, (let id : ℕ → ArpHardwareId = λ number. record { 0 = number } in ap id (sym e)))
