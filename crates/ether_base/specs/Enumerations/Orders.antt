-- The derived orders of the enumerations.
use Rattle.std.specs.Prelude.{◌≡◌}
use Rattle.std.specs.Ordering.{nat_cmp, on, then_cmp}
use Rattle.std.specs.declared.cmp.Ordering.{Ordering}
use Rattle.ether_base.specs.contracts.err.layer.LayerOrd.TheImpl as layer
use Rattle.ether_base.specs.contracts.err.value_type.ValueTypeOrd.TheImpl as value_type
use Rattle.ether_base.specs.contracts.len_source.LenSourceOrd.TheImpl as len_source
use Rattle.ether_base.specs.contracts.linux_sll_protocol_type.LinuxSllProtocolTypeOrd.TheImpl as protocol_type
use Rattle.ether_base.specs.declared.err.layer.Layer.{Layer}
use Rattle.ether_base.specs.declared.err.value_type.ValueType.{ValueType}
use Rattle.ether_base.specs.declared.len_source.LenSource.{LenSource}
use Rattle.ether_base.specs.declared.linux_sll_protocol_type.LinuxSllProtocolType.{LinuxSllProtocolType}
use Rattle.ether_base.specs.Enumerations.Layer.{layer_place}
use Rattle.ether_base.specs.Enumerations.ValueType.{value_type_place}
use Rattle.ether_base.specs.Enumerations.LenSource.{len_source_place}
use Rattle.ether_base.specs.Formats.LinuxSllProtocolType.{protocol_place, protocol_number}

-- what `cmp` returns of two values
abbrev pub layer_cmp : Layer → Layer → Ordering
layer_cmp = (layer.ghosts).cmp

abbrev pub value_type_cmp : ValueType → ValueType → Ordering
value_type_cmp = (value_type.ghosts).cmp

abbrev pub len_source_cmp : LenSource → LenSource → Ordering
len_source_cmp = (len_source.ghosts).cmp

abbrev pub protocol_type_cmp : LinuxSllProtocolType → LinuxSllProtocolType → Ordering
protocol_type_cmp = (protocol_type.ghosts).cmp

-- enumerations are ordered by the places of their variants, and protocol types of one variant by their numbers
pub record OrdersAreByVariants : Type 0 where
  pub layers : (a b : Layer) → layer_cmp a b ≡ on layer_place nat_cmp a b
  pub value_types : (a b : ValueType) → value_type_cmp a b ≡ on value_type_place nat_cmp a b
  pub len_sources : (a b : LenSource) → len_source_cmp a b ≡ on len_source_place nat_cmp a b
  pub protocol_types : (a b : LinuxSllProtocolType) → protocol_type_cmp a b
      ≡ then_cmp (on protocol_place nat_cmp) (on protocol_number nat_cmp) a b
