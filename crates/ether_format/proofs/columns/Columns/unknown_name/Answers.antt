use Rattle.std.proofs.Common.{rules, arith}
use Rattle.ether_format.proofs.UnknownLemmas.{first_unknown, last_unknown, later_unknown, named, none_unknown, not_named}
use Rattle.ether_format.proofs.columns.Columns.unknown_name.Goals as goal

pub loop-name-preserved : goal.loop-name-preserved
loop-name-preserved c =
    let found = c.in-Some.ensures.byte (omega arith) (λ w o f. f) in
    let is = named c.as_bytes.result.now c.in-Some.name.now c.of_name.result c.as_bytes.ensures.value
    c.of_name.ensures.some (search rules) in (
      search rules,
      λ unknown later. c.loop-name.invariant.1 unknown
          (later_unknown c.loop-name.rest.now c.in-Some.name.now c.in-Some.after.now found.2 found.0 found.1 unknown is
          later),
    )

pub returns-then-is_none : goal.returns-then-is_none
returns-then-is_none c =
    let found = c.in-Some.ensures.byte (omega arith) (λ w o f. f) in
    let none = not_named c.as_bytes.result.now c.in-Some.name.now c.of_name.result c.as_bytes.ensures.value
    c.of_name.ensures.none (search rules) in
    c.loop-name.invariant.1 _ (first_unknown c.loop-name.rest.now c.in-Some.name.now c.in-Some.after.now found.2 found.0
    found.1 none)

pub returns-then-is_none-2 : goal.returns-then-is_none-2
returns-then-is_none-2 c =
    let found = c.in_default.ensures.byte (omega arith) (λ w o f. f) in
    let none = not_named c.as_bytes-2.result.now c.loop-name.rest.now c.of_name-2.result c.as_bytes-2.ensures.value
    c.of_name-2.ensures.none (search rules) in
    c.loop-name.invariant.1 _ (last_unknown c.loop-name.rest.now found none)

pub returns : goal.returns
returns c =
    let found = c.in_default.ensures.byte (omega arith) (λ w o f. f) in
    let is = named c.as_bytes-2.result.now c.loop-name.rest.now c.of_name-2.result c.as_bytes-2.ensures.value
    c.of_name-2.ensures.some (search rules) in
    c.loop-name.invariant.1 _ (none_unknown c.loop-name.rest.now found is)
