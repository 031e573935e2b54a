use Rattle.std.proofs.Common.{List, [], ap, sym, subst, arith}
use Rattle.ether_format.specs.Columns.{ColumnValue, column_view, columns_view}
use Rattle.ether_format.proofs.ParsingLemmas.{TakesNames, all_taken, fewer, if_none, left_of, next_word, no_next, none_taken, one_more, too_many}
use Rattle.ether_format.proofs.columns.Columns.of_bytes.Goals as goal

pub returns-in_err-of_name-clause-none : goal.returns-in_err-of_name-clause-none
returns-in_err-of_name-clause-none c =
    let after = c.first_word.result.1 in
    if_none c.from_residual.result _
    (no_next c.args.text.now c.first_word.result.0.now [] (left_of after)
    (none_taken c.args.text.now c.first_word.result.0.now after c.first_word.ensures)
    c.in_err-of_name.ensures.none)

pub loop-rest-init : goal.loop-rest-init
loop-rest-init c =
    let after = c.first_word.result.1 in
    subst (λ (columns : List ColumnValue). TakesNames c.args.text.now columns (left_of after))
    (sym c.of_one-columns.ensures)
    (one_more c.args.text.now c.first_word.result.0.now [] (column_view c.in_ok-of_name.field-0) (left_of after)
    (none_taken c.args.text.now c.first_word.result.0.now after c.first_word.ensures) c.in_ok-of_name.ensures.some.0
    c.in_ok-of_name.ensures.some.1
    (omega arith))

pub returns-in_err-of_name-2-clause-none : goal.returns-in_err-of_name-2-clause-none
returns-in_err-of_name-2-clause-none c =
    let after = c.first_word-in-Some.result.1 in
    if_none c.from_residual-in_err-of_name-2.result _
    (no_next c.args.text.now c.first_word-in-Some.result.0.now (columns_view c.loop-rest.columns) (left_of after)
    (next_word c.args.text.now c.first_word-in-Some.result.0.now
    (columns_view c.loop-rest.columns) c.loop-rest.rest after c.in-Some.text
    c.loop-rest.invariant c.in-Some.is c.first_word-in-Some.ensures)
    c.in_err-of_name-2.ensures.none)

pub returns-in_err-push-clause-none : goal.returns-in_err-push-clause-none
returns-in_err-push-clause-none c =
    let after = c.first_word-in-Some.result.1 in
    if_none c.from_residual-in_err-push.result _
    (too_many c.args.text.now c.first_word-in-Some.result.0.now (columns_view c.loop-rest.columns) (left_of after)
    (next_word c.args.text.now c.first_word-in-Some.result.0.now
    (columns_view c.loop-rest.columns) c.loop-rest.rest after c.in-Some.text
    c.loop-rest.invariant c.in-Some.is c.first_word-in-Some.ensures)
    c.in_err-push.ensures.none)

pub loop-rest-smaller : goal.loop-rest-smaller
loop-rest-smaller c =
    fewer c.first_word-in-Some.result.0.now c.loop-rest.rest c.first_word-in-Some.result.1 c.in-Some.text c.in-Some.is
    c.first_word-in-Some.ensures

pub loop-rest-preserved : goal.loop-rest-preserved
loop-rest-preserved c =
    let after = c.first_word-in-Some.result.1 in
    let word = c.first_word-in-Some.result.0.now in
    subst (λ (columns : List ColumnValue). TakesNames c.args.text.now columns (left_of after))
    (sym c.in_ok-push.ensures.some)
    (one_more c.args.text.now word (columns_view c.loop-rest.columns) (column_view c.in_ok-of_name-2.field-0)
    (left_of after)
    (next_word c.args.text.now word (columns_view c.loop-rest.columns) c.loop-rest.rest after c.in-Some.text
    c.loop-rest.invariant
    c.in-Some.is c.first_word-in-Some.ensures)
    c.in_ok-of_name-2.ensures.some.0 c.in_ok-of_name-2.ensures.some.1 c.in_ok-push.ensures.room)

pub returns-clause-some : goal.returns-clause-some
returns-clause-some c =
    all_taken c.args.text.now (columns_view c.loop-rest.columns)
    (subst (TakesNames c.args.text.now (columns_view c.loop-rest.columns))
    (ap left_of c.in_default.is) c.loop-rest.invariant)
