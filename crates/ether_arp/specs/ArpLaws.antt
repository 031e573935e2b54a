-- The laws of ARP packets.
use Rattle.std.specs.Prelude.{◌≡◌, ◌⊎◌, ℕ, List}
use Rattle.ether_base.specs.declared.len_source.LenSource.{LenSource}
use Rattle.ether_base.specs.declared.err.arp.arp_hw_addr_error.ArpHwAddrError.{ArpHwAddrError}
use Rattle.ether_base.specs.declared.err.arp.arp_proto_addr_error.ArpProtoAddrError.{ArpProtoAddrError}
use Rattle.ether_base.specs.declared.err.arp.arp_new_error.ArpNewError.{ArpNewError}
use Rattle.ether_base.specs.declared.err.arp.arp_eth_ipv4_from_error.ArpEthIpv4FromError.{ArpEthIpv4FromError}
use Rattle.ether_base.specs.Formats.Arp.{ArpValue, FitsArp, arp_bytes, arp_of}
use Rattle.ether_base.specs.Bytes.{IsBytes}
use Rattle.ether_base.specs.Formats.Header.{Means}
use Rattle.ether_base.specs.Formats.Header as headers
use Rattle.ether_base.specs.Formats.Kind as kinds
use Rattle.ether_base.specs.Formats.Refusal.{Accepts}
use Rattle.ether_arp.specs.ArpAddresses.{RefusesHwAddrs, AcceptsHwAddrs, RefusesProtoAddrs, AcceptsProtoAddrs, RefusesAddrs, AcceptsAddrs}
use Rattle.ether_arp.specs.ArpEthIpv4.{RefusesEthIpv4, AcceptsEthIpv4}

-- at most one row of each table holds, and it is decided whether one does
pub record ArpRowsAreApart : Type 0 where
  pub one_hw : (sender target : ℕ) (d e : ArpHwAddrError) → RefusesHwAddrs sender target d
      → RefusesHwAddrs sender target e → d ≡ e
  pub decided_hw : (sender target : ℕ) → ((e : ArpHwAddrError) × RefusesHwAddrs sender target e)
      ⊎ AcceptsHwAddrs sender target
  pub one_proto : (sender target : ℕ) (d e : ArpProtoAddrError) → RefusesProtoAddrs sender target d
      → RefusesProtoAddrs sender target e → d ≡ e
  pub decided_proto : (sender target : ℕ) → ((e : ArpProtoAddrError) × RefusesProtoAddrs sender target e)
      ⊎ AcceptsProtoAddrs sender target
  pub one_new : (s p t q : ℕ) (d e : ArpNewError) → RefusesAddrs s p t q d → RefusesAddrs s p t q e → d ≡ e
  pub decided_new : (s p t q : ℕ) → ((e : ArpNewError) × RefusesAddrs s p t q e) ⊎ AcceptsAddrs s p t q
  pub one_eth_ipv4 : (a : ArpValue) (d e : ArpEthIpv4FromError) → RefusesEthIpv4 a d → RefusesEthIpv4 a e → d ≡ e
  pub decided_eth_ipv4 : (a : ArpValue) → ((e : ArpEthIpv4FromError) × RefusesEthIpv4 a e) ⊎ AcceptsEthIpv4 a

-- Accepted bytes mean the packet whose fields are at their places, a packet that bytes mean fits, and a packet that
-- fits is written as bytes.
pub record ArpPacketsAreMeant : Type 0 where
  pub read : (bound : LenSource) (bytes : List ℕ) → IsBytes bytes → Accepts bound bytes kinds.Arp
      → Means bytes (headers.Arp (arp_of bytes))
  pub fits : (bytes : List ℕ) → IsBytes bytes → (a : ArpValue) → Means bytes (headers.Arp a) → FitsArp a
  pub bytes : (a : ArpValue) → FitsArp a → IsBytes (arp_bytes a)
