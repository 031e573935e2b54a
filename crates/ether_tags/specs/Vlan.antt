-- VLAN tags as values of the wire format, one or two, the outermost first.
use Rattle.std.specs.Prelude.{ℕ, List, [], ◌∷◌}
use Rattle.ether_base.specs.Formats.Vlan.{VlanValue, vlan_of}
use Rattle.ether_base.specs.Bytes.{bit}
use Rattle.ether_tags.specs.declared.single_vlan_header.SingleVlanHeader.{SingleVlanHeader}
use Rattle.ether_tags.specs.declared.vlan_header.VlanHeader.{VlanHeader}
use Rattle.ether_tags.specs.declared.vlan_header.VlanHeader.TheVariants.{Single, Double}
use Rattle.ether_tags.specs.declared.vlan_slice.VlanSlice.{VlanSlice}
use Rattle.ether_tags.specs.declared.vlan_slice.VlanSlice.TheVariants.{SingleVlan, DoubleVlan}

abbrev pub vlan_view : SingleVlanHeader → VlanValue
vlan_view h = record { pcp = h.pcp; dei = bit h.drop_eligible_indicator; vid = h.vlan_id; ether_type = h.ether_type.0 }

abbrev pub header_tags : VlanHeader → List VlanValue
header_tags (Single h) = vlan_view h ∷ []
header_tags (Double h) = vlan_view h.outer ∷ vlan_view h.inner ∷ []

abbrev pub slice_tags : VlanSlice → List VlanValue
slice_tags (SingleVlan s) = vlan_of s ∷ []
slice_tags (DoubleVlan s) = vlan_of s.outer ∷ vlan_of s.inner ∷ []

-- the ether type after the last tag
abbrev pub next_type : VlanHeader → ℕ
next_type (Single h) = h.ether_type.0
next_type (Double h) = h.inner.ether_type.0

-- the bytes of the last tag and its payload
abbrev pub innermost : VlanSlice → List ℕ
innermost (SingleVlan s) = s
innermost (DoubleVlan s) = s.inner
