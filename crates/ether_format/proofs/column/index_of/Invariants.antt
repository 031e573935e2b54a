use Rattle.std.proofs.Common.{drop}
use Rattle.std.specs.List.{IsAmong}
use Rattle.ether_format.proofs.Names.{names_in}
use Rattle.ether_format.proofs.column.index_of.Given as goal

abbrev pub invariant-loop-index : goal.invariant-loop-index
invariant-loop-index l = IsAmong (names_in l.fields) l.name → IsAmong (names_in (drop l.index l.fields)) l.name
