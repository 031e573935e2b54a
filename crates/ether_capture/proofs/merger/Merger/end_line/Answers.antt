use Rattle.std.proofs.Common.{List, arith, subst, ℕ}
use Rattle.ether_capture.specs.KeyCounts.{Hit}
use Rattle.ether_capture.specs.Merging.{IsCountLine}
use Rattle.ether_capture.proofs.MergerLemmas.{line_ends, other_line}
use Rattle.ether_capture.proofs.merger.Merger.end_line.Goals as goal

pub returns-in_default-clause-refused : goal.returns-in_default-clause-refused
returns-in_default-clause-refused c text so_far =
    other_line text c.args.self.now c.saturating_add-number.result so_far
    (subst (λ (l : List ℕ). (h : Hit) → ¬ (IsCountLine l h)) c.as_slice.ensures c.in_default.ensures.none)
    c.saturating_add-number.ensures

pub returns-clause-taken : goal.returns-clause-taken
returns-clause-taken c text so_far =
    let h : Hit = record { key = c.in-Some.key.now; count = c.in-Some.count } in
    let is = c.in-Some.ensures.some in
    let packets = is.are_packets.value in
    let bytes = is.are_bytes.value in
    line_ends text c.args.self.now _ h so_far
    (subst (λ (l : List ℕ). IsCountLine l h) c.as_slice.ensures is)
    (omega (arith, packets), omega (arith, bytes)) c.in_ok-add.ensures c.saturating_add-number.ensures c.clear.ensures
