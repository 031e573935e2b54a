-- Frames in a VLAN that have IPv4 or ARP.
use Rattle.std.specs.Prelude.{◌≡◌, ◌⊎◌, ℕ, List, slice_get, Contains, MatchOption}
use Rattle.etherparse.specs.Header.{Header}
use Rattle.ether_peel.specs.declared.rest_kind.RestKind.{RestKind}
use Rattle.ether_peel.specs.declared.rest_kind.RestKind.TheVariants as rests
use Rattle.ether_packet.specs.Getters.{vlan_ids_of}

-- one of these headers is a VLAN tag, and the outermost VLAN tag has one of these identifiers
abbrev pub IsInVlan : List ℕ → List Header → Type 0
IsInVlan vlan_ids hs = MatchOption (slice_get (vlan_ids_of hs) 0) ⊥ (Contains vlan_ids)

-- the headers are followed by IPv4 (0x0800), by an ARP packet (0x0806) that is refused, or by what follows an ARP
-- packet that was read
abbrev pub IsIpv4OrArp : RestKind → Type 0
IsIpv4OrArp (rests.EtherType t) = (t.0 ≡ 0x0800) ⊎ (t.0 ≡ 0x0806)
IsIpv4OrArp rests.AfterArp = Unit {0}
IsIpv4OrArp _ = ⊥
