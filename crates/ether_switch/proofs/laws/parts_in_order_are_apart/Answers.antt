use Rattle.ether_switch.proofs.Ordered.{parts_in_order_are_apart}
use Rattle.ether_switch.proofs.laws.parts_in_order_are_apart.Goals as goal

pub returns : goal.returns
returns c = parts_in_order_are_apart
