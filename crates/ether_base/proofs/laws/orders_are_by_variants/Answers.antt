use Rattle.ether_base.proofs.Orders.{layers_by_place, value_types_by_place, len_sources_by_place, protocol_types_by_place}
use Rattle.ether_base.proofs.laws.orders_are_by_variants.Goals as goal

pub returns : goal.returns
returns c = record {
  layers = layers_by_place;
  value_types = value_types_by_place;
  len_sources = len_sources_by_place;
  protocol_types = protocol_types_by_place;
}
