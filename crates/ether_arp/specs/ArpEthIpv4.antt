-- Packets of Ethernet and IPv4: hardware type 1 and 6 bytes (RFC 826), protocol type 0x0800 (RFC 894) and 4 bytes.
use Rattle.std.specs.Prelude.{◌≡◌, ℕ, ◌*◌, ◌+◌, ◌^◌, List, ◌++◌, length, Result, MatchResult}
use Rattle.ether_base.specs.Formats.Arp.{ArpValue}
use Rattle.ether_base.specs.Bytes.{spelled}
use Rattle.ether_base.specs.declared.err.arp.arp_eth_ipv4_from_error.ArpEthIpv4FromError.{ArpEthIpv4FromError}
use Rattle.ether_base.specs.declared.err.arp.arp_eth_ipv4_from_error.ArpEthIpv4FromError.TheVariants.{NonMatchingHwType, NonMatchingProtocolType, NonMatchingHwAddrSize, NonMatchingProtoAddrSize}
use Rattle.ether_arp.specs.declared.arp_eth_ipv4_packet.ArpEthIpv4Packet.{ArpEthIpv4Packet}

-- the packet as a value; 2048 is 0x0800
abbrev pub eth_ipv4_view : ArpEthIpv4Packet → ArpValue
eth_ipv4_view p = record {
  hardware_type = 1;
  protocol_type = 2048;
  operation = p.operation.0;
  sender_hardware = p.sender_mac;
  sender_protocol = p.sender_ipv4;
  target_hardware = p.target_mac;
  target_protocol = p.target_ipv4;
}

-- its 28 bytes: hardware type 1, protocol type 2048, sizes 6 and 4, the operation, and the four addresses
abbrev pub eth_ipv4_bytes : ArpEthIpv4Packet → List ℕ
eth_ipv4_bytes p = spelled 8 (1 * 2 ^ 48 + 2048 * 2 ^ 32 + 6 * 2 ^ 24 + 4 * 2 ^ 16 + p.operation.0) ++ p.sender_mac
    ++ p.sender_ipv4 ++ p.target_mac ++ p.target_ipv4

-- the rows for a value that is not of Ethernet and IPv4, each with what the value has instead
pub data RefusesEthIpv4 (a : ArpValue) : ArpEthIpv4FromError → Type 0 where
  hardware_type : (a.hardware_type ≡ 1 → ⊥)
      → RefusesEthIpv4 a (NonMatchingHwType (record { 0 = a.hardware_type }))
  protocol_type : a.hardware_type ≡ 1 → (a.protocol_type ≡ 2048 → ⊥)
      → RefusesEthIpv4 a (NonMatchingProtocolType (record { 0 = a.protocol_type }))
  hardware_size : a.hardware_type ≡ 1 → a.protocol_type ≡ 2048 → (length a.sender_hardware ≡ 6 → ⊥)
      → RefusesEthIpv4 a (NonMatchingHwAddrSize (length a.sender_hardware))
  protocol_size : a.hardware_type ≡ 1 → a.protocol_type ≡ 2048 → length a.sender_hardware ≡ 6
      → (length a.sender_protocol ≡ 4 → ⊥)
      → RefusesEthIpv4 a (NonMatchingProtoAddrSize (length a.sender_protocol))

-- no row holds
abbrev pub AcceptsEthIpv4 : ArpValue → Type 0
AcceptsEthIpv4 a = (e : ArpEthIpv4FromError) → RefusesEthIpv4 a e → ⊥

-- a value is read as a packet of Ethernet and IPv4
pub record ReadsEthIpv4 (a : ArpValue) (p : ArpEthIpv4Packet) : Type 0 where
  pub accepted : AcceptsEthIpv4 a
  pub value : a ≡ eth_ipv4_view p

-- what reading a value returns
abbrev pub AnswersEthIpv4 : ArpValue → Result ArpEthIpv4Packet ArpEthIpv4FromError → Type 0
AnswersEthIpv4 a result = MatchResult result (ReadsEthIpv4 a) (RefusesEthIpv4 a)
