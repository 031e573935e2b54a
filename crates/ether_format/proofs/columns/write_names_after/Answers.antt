use Rattle.std.proofs.Common.{◌++◌, List, ℕ}
use Rattle.ether_output.proofs.OutputBufferLemmas.{Takes-then}
use Rattle.ether_format.specs.declared.column.Column.{Column}
use Rattle.ether_format.specs.Columns.{column_name, column_view}
use Rattle.ether_format.proofs.ListLemmas.{first_none, first_next, first_all}
use Rattle.ether_format.proofs.columns.write_names_after.Goals as goal

abbrev text : List ℕ → Column → List ℕ
text separator c = separator ++ column_name (column_view c)

pub loop-column-init : goal.loop-column-init
loop-column-init g c =
    first_none g.W.Sink.contents g.W.Sink.can_fail (text c.args.separator.now)
    c.args.columns.now c.args.out.now

pub loop-column-preserved : goal.loop-column-preserved
loop-column-preserved g c =
    first_next g.W.Sink.contents g.W.Sink.can_fail (text c.args.separator.now)
    c.args.columns.now c.loop-column.column-index _ c.args.out.now
    c.loop-column.out
    c.write_name.new.out c.loop-column-test.true c.loop-column.invariant
    (Takes-then c.append.ensures c.write_name.ensures)

pub returns : goal.returns
returns g c =
    first_all g.W.Sink.contents g.W.Sink.can_fail (text c.args.separator.now)
    c.args.columns.now c.loop-column.column-index c.args.out.now
    c.loop-column.out
    c.loop-column-test.false c.loop-column.invariant
