use Rattle.std.proofs.Common.{arith}
use Rattle.ether_filter.proofs.FieldChoices.{nearest_is}
use Rattle.ether_filter.proofs.own_fields.nearest_address.Goals as goal

pub returns : goal.returns
returns c =
    nearest_is c.args.known.now c.args.place c.args.address _
    (omega (
      arith,
      c.digit.ensures.value,
      c.digit-2.ensures.value,
      c.digit-3.ensures.value,
      c.digit-4.ensures.value,
      c.digit-5.ensures.value,
      c.digit-6.ensures.value,
    ))
