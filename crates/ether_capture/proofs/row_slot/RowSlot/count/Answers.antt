use Rattle.std.proofs.Common.{subst}
use Rattle.ether_capture.specs.CountTable.{count_at}
use Rattle.ether_capture.specs.Waiting.{Adds, spread}
use Rattle.ether_capture.proofs.ResultLemmas.{then_ok}
use Rattle.ether_capture.proofs.WaitingLemmas.{counts_slot}
use Rattle.ether_capture.proofs.row_slot.RowSlot.count.Goals as goal

pub returns-in-Some : goal.returns-in-Some
returns-in-Some g c =
    then_ok c.count_texts.result
    (λ added. counts_slot g.G.Grouping.is_joint c.args.heading.now c.args.self.now.texts.bytes.items
    c.args.self.now.count c.in-Some.count (count_at c.args.counts.now) (count_at c.count_texts.new.counts) c.in-Some.is
    (subst
    (λ t. Adds (spread g.G.Grouping.is_joint c.args.heading.now (record { key = t; count = c.in-Some.count }))
    (count_at c.args.counts.now) (count_at c.count_texts.new.counts)) c.as_slice.ensures added))
    c.count_texts.ensures
