use Rattle.ether_format.proofs.RowLemmas.{WritesValues}
use Rattle.ether_format.proofs.row.write_in_headers.Given as goal

abbrev pub invariant-loop-found : goal.invariant-loop-found
invariant-loop-found g l =
    WritesValues g.W.Sink.contents g.W.Sink.can_fail l.column l.headers l.found-index l.is_first l.fn.out l.out
