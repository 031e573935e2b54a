-- The VLAN tag without its own ether type: tag control information (IEEE 802.1Q, 9.6), and the ether type that follows.
use Rattle.std.specs.Prelude.{◌≡◌, ℕ, ◌+◌, ◌*◌, ◌/◌, ◌%◌, ◌^◌, ◌<◌, List, [], ◌∷◌, slice_range, Bool, nat_eq}
use Rattle.std.specs.List.{list_any}
use Rattle.ether_base.specs.Bytes.{number, spelled}

-- the ether types that announce a VLAN tag: of a customer tag and of a service tag (IEEE 802.1Q, table 9-1), and the
-- older number for double tagging
abbrev pub vlan_ether_types : List ℕ
vlan_ether_types = 0x8100 ∷ 0x88A8 ∷ 0x9100 ∷ []

-- whether an ether type is one of them
abbrev pub is_vlan_ether_type : ℕ → Bool
is_vlan_ether_type ether_type = list_any (nat_eq ether_type) vlan_ether_types

-- priority code point, drop eligible indicator, VLAN identifier
pub record VlanValue : Type 0 where
  pub pcp : ℕ
  pub dei : ℕ
  pub vid : ℕ
  pub ether_type : ℕ

-- PCP 3 bits, DEI 1 bit, VID 12 bits, ether type 16 bits
abbrev pub vlan_number : VlanValue → ℕ
vlan_number v = v.pcp * 2 ^ 29 + v.dei * 2 ^ 28 + v.vid * 2 ^ 16 + v.ether_type

pub record FitsVlan (v : VlanValue) : Type 0 where
  pub pcp : v.pcp < 8
  pub dei : v.dei < 2
  pub vid : v.vid < 4096
  pub ether_type : v.ether_type < 2 ^ 16

-- four bytes mean a value
pub record IsVlan (bytes : List ℕ) (v : VlanValue) : Type 0 where
  pub sum : number bytes ≡ vlan_number v
  pub fits : FitsVlan v

-- the four bytes of a value
abbrev pub vlan_bytes : VlanValue → List ℕ
vlan_bytes v = spelled 4 (vlan_number v)

-- the value in a list of at least four bytes
abbrev pub vlan_of : List ℕ → VlanValue
vlan_of bytes = let control = number (slice_range bytes 0 2) in record {
  pcp = control / 2 ^ 13;
  dei = control / 2 ^ 12 % 2;
  vid = control % 2 ^ 12;
  ether_type = number (slice_range bytes 2 4);
}
