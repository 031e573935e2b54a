use Rattle.std.proofs.Common.{◌≡◌, length, ap, rules, arith}
use Rattle.std.specs.Option.{option_map}
use Rattle.ether_capture.specs.CountTable.{count_at}
use Rattle.ether_capture.proofs.CountRowLemmas.{begins_row, counts_column, ends_names, ends_texts, passes_column}
use Rattle.ether_capture.proofs.row_counts.count_each.Goals as goal

pub loop-columns-init : goal.loop-columns-init
loop-columns-init c =
    begins_row c.args.heading.now c.args.texts.now c.args.count (count_at c.args.counts.now)
    c.first_field.result.0.now _ c.first_field.ensures

pub loop-columns-preserved-in_ok-count_text : goal.loop-columns-preserved-in_ok-count_text
loop-columns-preserved-in_ok-count_text c =
    counts_column c.args.heading.now c.args.texts.now c.args.count (count_at c.args.counts.now)
    c.in-Some-Some.names.now c.in-Some-Some.texts.now c.first_field-in-Some-Some.result.0.now
    c.first_field-in-Some-Some-2.result.0.now _ _ (count_at c.loop-columns.counts) c.first_field-in-Some-Some.ensures
    c.first_field-in-Some-Some-2.ensures
    (rw (c.in-Some-Some.is-0, c.in-Some-Some.is-1) at c.loop-columns.invariant) (count_at c.count_text.new.counts)
    (omega arith, omega arith) (search rules) c.in_ok-count_text.ensures

pub loop-columns-preserved : goal.loop-columns-preserved
loop-columns-preserved c =
    let zero : length c.first_field-in-Some-Some-2.result.0.now ≡ 0 = search rules in
    passes_column c.args.heading.now c.args.texts.now c.args.count (count_at c.args.counts.now)
    c.in-Some-Some.names.now c.in-Some-Some.texts.now c.first_field-in-Some-Some.result.0.now
    c.first_field-in-Some-Some-2.result.0.now _ _ (count_at c.loop-columns.counts) c.first_field-in-Some-Some.ensures
    c.first_field-in-Some-Some-2.ensures
    (rw (c.in-Some-Some.is-0, c.in-Some-Some.is-1) at c.loop-columns.invariant) zero

pub returns-in_default : goal.returns-in_default
returns-in_default c =
    ends_texts c.args.heading.now c.args.texts.now c.args.count (count_at c.args.counts.now)
    (option_map (λ s. s.now) c.loop-columns.columns) (option_map (λ s. s.now) c.loop-columns.fields)
    (count_at c.loop-columns.counts) (ap (option_map (λ s. s.now)) c.in_default.is-1) c.loop-columns.invariant

pub returns-in_default-2 : goal.returns-in_default-2
returns-in_default-2 c =
    ends_names c.args.heading.now c.args.texts.now c.args.count (count_at c.args.counts.now)
    (option_map (λ s. s.now) c.loop-columns.columns) (option_map (λ s. s.now) c.loop-columns.fields)
    (count_at c.loop-columns.counts) (ap (option_map (λ s. s.now)) c.in_default.is-0) c.loop-columns.invariant
