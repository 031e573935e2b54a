use Rattle.std.proofs.Common.{ap, ◌∙◌}
use Rattle.ether_output.proofs.OutputBufferLemmas.{Takes-same}
use Rattle.ether_format.specs.declared.found.Found.{Found}
use Rattle.ether_format.specs.Columns.{column_view}
use Rattle.ether_format.specs.Found.{found_told}
use Rattle.ether_format.specs.Values.{column_on, header_shown, still_first}
use Rattle.ether_format.proofs.RowLemmas.{values_start, values_next, values_end}
use Rattle.ether_format.proofs.row.write_in_headers.Goals as goal

pub loop-found-init : goal.loop-found-init
loop-found-init g c = values_start g.W.Sink.contents g.W.Sink.can_fail c.args.column c.args.headers.now c.args.out.now

pub loop-found-preserved : goal.loop-found-preserved
loop-found-preserved g c =
    let told = λ (f : Found). header_shown (column_view c.args.column) (found_told f) in
    let is = c.in_found.ensures ∙ ap told c.found-item.is in
    values_next g.W.Sink.contents g.W.Sink.can_fail c.args.column c.args.headers.now c.loop-found.found-index
    c.loop-found.is_first
    c.write_value-is_first.result c.found-item.result c.args.out.now c.loop-found.out c.write_value-is_first.new.out
    c.loop-found-test.true
    c.loop-found.invariant (Takes-same (ap (column_on c.loop-found.is_first) is) c.write_value-is_first.ensures.text)
    (c.write_value-is_first.ensures.next ∙ ap (still_first c.loop-found.is_first) is)

pub returns : goal.returns
returns g c =
    values_end g.W.Sink.contents g.W.Sink.can_fail c.args.column c.args.headers.now c.loop-found.found-index
    c.loop-found.is_first c.args.out.now
    c.loop-found.out c.loop-found-test.false c.loop-found.invariant
