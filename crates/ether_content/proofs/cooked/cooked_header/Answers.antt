use Rattle.std.proofs.Common.{◌≡◌, ◌∙◌, ap, arith, rules}
use Rattle.std.specs.Prelude.{slice_range}
use Rattle.ether_base.specs.Bytes.{number}
use Rattle.ether_base.proofs.Numbers.{number-spelled}
use Rattle.ether_base.proofs.NumberAt.{number_within}
use Rattle.ether_base.proofs.SubLists.{IsBytes-part, length-part_min}
use Rattle.ether_content.proofs.cooked.cooked_header.Goals as goal

pub returns-clause-some : goal.returns-clause-some
returns-clause-some c =
    let bytes = c.args.bytes.now in
    let part = slice_range bytes 6 14 in
    let below =
    number_within part 8 (IsBytes-part 6 14 bytes (λ i. omega (arith, c.type_inv.bytes i)))
    (length-part_min bytes 6 14) in
    let address : number c.sender_address_full.result ≡ number part =
    ap number c.sender_address_full.ensures ∙ number-spelled 8 (number part) below in
    search (rules, address)
