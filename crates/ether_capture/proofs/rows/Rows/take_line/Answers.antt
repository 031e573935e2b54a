use Rattle.std.proofs.Common.{◌≡◌, ◌++◌, List, ℕ, ap, Some, false, length, refl, rules, sym, true, ◌∙◌}
use Rattle.std.specs.Option.{option_map}
use Rattle.std.specs.Vec.{with_items}
use Rattle.std.proofs.lemmas.List.{with_items_is}
use Rattle.ether_capture.specs.CountTable.{count_at}
use Rattle.ether_capture.specs.KeyCounts.{one_packet, plus}
use Rattle.ether_capture.specs.RowFields.{row_fields}
use Rattle.ether_capture.proofs.RowsLemmas.{first_line, grows_as, next_row}
use Rattle.ether_capture.proofs.rows.Rows.take_line.Goals as goal

pub returns-then-not-self : goal.returns-then-not-self
returns-then-not-self g c lines so_far =
    let none : c.args.self.now.has_heading ≡ false = search rules in
    first_line g.G.Grouping.is_joint lines c.args.self.now.line.bytes.items c.args.self.now _ none so_far refl
    (c.in_ok-append.ensures ∙ ap (λ (l : List ℕ). c.args.self.now.heading.bytes.items ++ l) c.as_slice.ensures) refl
    refl c.in_ok-self.ensures

pub returns : goal.returns
returns g c lines so_far =
    let some : c.args.self.now.has_heading ≡ true = search rules in
    let old = c.args.self.now in
    let slots : (with_items old.slots c.take_row.new.slots).items ≡ c.take_row.new.slots =
    with_items_is old.slots c.take_row.new.slots
    (c.take_row.ensures.len ∙ ap length c.as_mut_slice.ensures.value ∙ sym old.slots.ok.0) in
    next_row g.G.Grouping.is_joint lines old.line.bytes.items c.first_field.result.0.now c.or_nothing.result.now
    (option_map (λ s. s.now) c.first_field.result.1) c.decimal_value.result old _ some so_far refl refl
    (ap row_fields (sym c.as_slice-2.ensures) ∙ c.first_field.ensures) c.or_nothing.ensures c.decimal_value.ensures
    (grows_as g.G.Grouping.is_joint c.as_slice-3.result.now old.heading.bytes.items c.or_nothing.result.now
    c.of_packet-more.result (one_packet c.decimal_value.result) (count_at old.counts) (count_at c.take_row.new.counts)
    c.as_mut_slice.result.now old.slots.items c.take_row.new.slots (with_items old.slots c.take_row.new.slots).items
    c.as_slice-3.ensures c.of_packet-more.ensures c.as_mut_slice.ensures.value (sym slots)
    c.in_ok-take_row.ensures.counts)
    (c.with-self.ensures ∙ ap (plus (Some old.total)) c.of_packet-more.ensures)
