use Rattle.std.proofs.Common.{◌∙◌, arith}
use Rattle.std.specs.Prelude.{slice_range}
use Rattle.ether_base.proofs.Numbers.{spelled-is}
use Rattle.ether_base.proofs.SubLists.{IsBytes-part, length-part}
use Rattle.ether_sll.proofs.linux_sll_fields.address.Goals as goal

pub returns : goal.returns
returns c =
    let bytes = c.args.bytes.now in
    c.sender_address_full.ensures
    ∙ spelled-is 8 (slice_range bytes 6 14) (length-part bytes 6 14 (omega (arith, c.requires)))
    (IsBytes-part 6 14 bytes (λ i. omega (arith, c.type_inv.bytes i)))
