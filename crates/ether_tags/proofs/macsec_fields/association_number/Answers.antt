use Rattle.std.proofs.Common.{◌≡◌, ◌%◌, get_or, arith}
use Rattle.std.proofs.lemmas.Grind.{common_steps}
use Rattle.ether_tags.proofs.MacsecFields.{first_byte}
use Rattle.ether_tags.proofs.macsec_fields.association_number.Goals as goal

pub returns : goal.returns
returns c =
    let first = first_byte c.args.bytes.now (λ i. omega (arith, c.type_inv.bytes i)) c.requires in
    let low : c.unwrap.result ≡ get_or c.args.bytes.now 0 0 % 4 = grind (arith, common_steps) in
    omega (arith, first, low)
