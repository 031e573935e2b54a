use Rattle.std.proofs.Common.{arith}
use Rattle.ether_base.proofs.SubLists.{number-part_below}
use Rattle.ether_tags.proofs.macsec_fields.has_version_one.Goals as goal

pub returns : goal.returns
returns c =
    let below = number-part_below c.args.bytes.now 0 2 (λ i. omega (arith, c.type_inv.bytes i)) c.requires in
    omega (arith, below)
