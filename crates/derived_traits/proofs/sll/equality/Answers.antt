use Rattle.std.proofs.Common.{rules}
use Rattle.derived_traits.proofs.sll.equality.Goals as goal

pub returns-clause-linux_sll_header : goal.returns-clause-linux_sll_header
returns-clause-linux_sll_header c = λ a b. (search rules, search rules)

pub returns-clause-link_header : goal.returns-clause-link_header
returns-clause-link_header c = λ a b. (search rules, search rules)
