use Rattle.std.proofs.Common.{ap, ◌∙◌}
use Rattle.ether_format.specs.Columns.{column_view}
use Rattle.ether_format.specs.Counted.{counted}
use Rattle.ether_format.specs.declared.found.Found.{Found}
use Rattle.ether_format.specs.Found.{found_told}
use Rattle.ether_format.specs.Values.{header_shown}
use Rattle.ether_format.proofs.CsvLemmas.{counted_end, counted_next}
use Rattle.ether_format.proofs.csv.count_in.Goals as goal

pub loop-found-preserved : goal.loop-found-preserved
loop-found-preserved c =
    counted_next (column_view c.args.column) c.args.headers.now c.loop-found.found-index c.loop-found.count
    c.and-count.result c.found-item.result c.loop-found-test.true
    (c.and-count.ensures ∙ ap (counted c.loop-found.count) (c.in_found.ensures
    ∙ ap (λ (f : Found). header_shown (column_view c.args.column) (found_told f)) c.found-item.is))
    c.loop-found.invariant

pub returns : goal.returns
returns c =
    counted_end (column_view c.args.column) c.args.headers.now c.loop-found.found-index c.loop-found.count
    c.loop-found-test.false c.loop-found.invariant
