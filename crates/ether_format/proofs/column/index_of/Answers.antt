use Rattle.std.proofs.Common.{◌≡◌, ◌<◌, ◌+◌, ℕ, suc, sym, subst, ◌∙◌, drop, length, arith}
use Rattle.std.specs.List.{IsAmong}
use Rattle.ether_format.proofs.Names.{among_at, named_here, names_in, not_before}
use Rattle.ether_format.proofs.column.index_of.Goals as goal

pub returns-then-is_named-clause-some : goal.returns-then-is_named-clause-some
returns-then-is_named-clause-some c =
    let name = c.args.name.now in
    let fields = c.args.fields.now in
    let at = c.loop-index.index in
    let lt : at < length fields = let test = c.loop-index-test.true in omega (arith, test) in
    let is = sym c.is_named.ensures ∙ c.if-is_named.true in
    (named_here name fields at _ lt is, among_at name fields at _ lt is, lt)

pub loop-index-preserved : goal.loop-index-preserved
loop-index-preserved c =
    let name = c.args.name.now in
    let fields = c.args.fields.now in
    let at = c.loop-index.index in
    let lt : at < length fields = let test = c.loop-index-test.true in omega (arith, test) in
    let other = sym c.is_named.ensures ∙ c.if-is_named.false in
    let next : suc at ≡ at + 1 = omega arith in
    λ among. subst (λ (k : ℕ). IsAmong (names_in (drop k fields)) name) next
    (not_before name fields at _ lt other (c.loop-index.invariant among))
