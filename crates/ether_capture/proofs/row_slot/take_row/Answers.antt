use Rattle.ether_capture.specs.CountTable.{count_at}
use Rattle.ether_capture.proofs.ResultLemmas.{then_ok}
use Rattle.ether_capture.proofs.WaitingLemmas.{grows_at}
use Rattle.ether_capture.proofs.row_slot.take_row.Goals as goal

pub returns-clause-counts : goal.returns-clause-counts
returns-clause-counts g c =
    then_ok c.take.result
    (grows_at g.G.Grouping.is_joint c.args.heading.now (record { key = c.args.texts.now; count = c.args.more })
    (count_at c.args.counts.now) (count_at c.take.new.counts) c.args.slots.now c.slot_of-at.result
    c.index-slots-at.result c.take.new.self c.if-at-slots.false)
    c.take.ensures
