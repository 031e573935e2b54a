use Rattle.std.proofs.Common.{arith}
use Rattle.ether_sll2.proofs.linux_sll2_fields.header.Goals as goal

pub returns-clause-bytes : goal.returns-clause-bytes
returns-clause-bytes c = λ i. omega (arith, c.type_inv.bytes i)
