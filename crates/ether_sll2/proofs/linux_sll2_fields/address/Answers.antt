use Rattle.std.proofs.Common.{◌∙◌, arith}
use Rattle.std.specs.Prelude.{slice_range}
use Rattle.ether_base.proofs.Numbers.{spelled-is}
use Rattle.ether_base.proofs.SubLists.{IsBytes-part, length-part}
use Rattle.ether_sll2.proofs.linux_sll2_fields.address.Goals as goal

pub returns : goal.returns
returns c =
    let bytes = c.args.bytes.now in
    c.sender_address_full.ensures
    ∙ spelled-is 8 (slice_range bytes 12 20) (length-part bytes 12 20 (omega (arith, c.requires)))
    (IsBytes-part 12 20 bytes (λ i. omega (arith, c.type_inv.bytes i)))
