use Rattle.std.proofs.Common.{sym, ap, ◌∙◌, take, arith}
use Rattle.ether_base.specs.Bytes.{IsBytes}
use Rattle.ether_base.proofs.Numbers.{spelled-is}
use Rattle.ether_format.proofs.values.used.Goals as goal

pub returns : goal.returns
returns c =
    let ok : IsBytes c.args.address.now = λ i. omega (arith, c.type_inv.address i) in
    c.first_of.ensures ∙ ap (take c.args.len) (sym (spelled-is 8 c.args.address.now c.requires ok))
