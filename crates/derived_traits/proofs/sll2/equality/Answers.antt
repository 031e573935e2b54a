use Rattle.std.proofs.Common.{rules}
use Rattle.derived_traits.proofs.sll2.equality.Goals as goal

pub returns-clause-linux_sll2_header : goal.returns-clause-linux_sll2_header
returns-clause-linux_sll2_header c = λ a b. (search rules, search rules)
