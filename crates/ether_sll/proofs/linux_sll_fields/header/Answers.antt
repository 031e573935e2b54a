use Rattle.std.proofs.Common.{arith}
use Rattle.ether_sll.proofs.linux_sll_fields.header.Goals as goal

pub returns-clause-bytes : goal.returns-clause-bytes
returns-clause-bytes c = λ i. omega (arith, c.type_inv.bytes i)
