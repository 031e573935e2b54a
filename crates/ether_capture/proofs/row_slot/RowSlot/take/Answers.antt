use Rattle.std.proofs.Common.{◌≡◌, ◌∷◌, [], rules, subst, sym}
use Rattle.ether_capture.specs.CountTable.{count_at}
use Rattle.ether_capture.specs.Waiting.{GrowsBy, hits_if}
use Rattle.ether_capture.proofs.WaitingLemmas.{joins_slot}
use Rattle.ether_capture.proofs.row_slot.RowSlot.take.Goals as goal

pub returns-then-eq : goal.returns-then-eq
returns-then-eq g c =
    let same : c.args.self.now.texts.bytes.items ≡ c.args.texts.now = search rules in
    subst
    (λ k. GrowsBy g.G.Grouping.is_joint c.args.heading.now (record { key = c.args.texts.now; count = c.args.more })
    (count_at c.args.counts.now) (count_at c.args.counts.now)
    (hits_if c.args.self.now.texts.bytes.items c.args.self.now.count)
    (record { key = c.args.self.now.texts.bytes.items; count = k } ∷ [])) (sym c.with.ensures)
    (joins_slot g.G.Grouping.is_joint c.args.heading.now c.args.self.now.texts.bytes.items c.args.texts.now
    c.args.self.now.count c.in-Some.count c.args.more (count_at c.args.counts.now) c.in-Some.is same)
