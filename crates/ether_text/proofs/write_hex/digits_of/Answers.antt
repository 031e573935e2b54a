use Rattle.std.proofs.Common.{◌∙◌, arith, rules}
use Rattle.ether_text.proofs.WriteHexLemmas.{encoded}
use Rattle.ether_text.proofs.write_hex.digits_of.Goals as goal

pub returns : goal.returns
returns g c =
    search (rules, c.encode_to_slice.ensures.written)
    ∙ encoded c.args.bytes.now (λ i. omega (arith, c.type_inv.bytes i))
