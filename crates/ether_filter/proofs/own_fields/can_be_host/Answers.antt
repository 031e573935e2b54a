use Rattle.std.proofs.Common.{arith}
use Rattle.ether_filter.proofs.FieldChoices.{host_among}
use Rattle.ether_filter.proofs.own_fields.can_be_host.Goals as goal

pub returns : goal.returns
returns c room long =
    host_among c.args.known.now c.args.address room c.can_be_address.result c.can_be_address-2.result c.any.result
    (λ i. omega (arith, c.type_inv.known i)) c.requires.few long (c.can_be_address.ensures.among room long)
    (c.can_be_address-2.ensures.among room long) c.can_be_address.ensures.lacks c.can_be_address-2.ensures.lacks
    c.any.ensures.matches c.any.ensures.fails
