use Rattle.std.proofs.Common.{refl, sym, subst, ◌∙◌, ◌≡◌, ◌≤◌, arith, ℕ, length, true}
use Rattle.ether_filter.specs.declared.seen.Seen.{Seen}
use Rattle.ether_filter.proofs.Looking.{Looks, looks_first, looks_next, looks_fault, looks_none}
use Rattle.ether_filter.proofs.seen.look.Goals as goal

pub loop-unit-init : goal.loop-unit-init
loop-unit-init c = (
  refl,
  λ is none. subst (λ (s : Seen). Looks c.args.start c.args.frame.now c.new-peel.result s c.args.ids.now) (sym is)
      (looks_first c.args.start c.args.frame.now c.new-peel.result c.args.ids.now none c.new-peel.ensures.state
      c.new-peel.ensures.walk),
)

pub loop-unit-preserved : goal.loop-unit-preserved
loop-unit-preserved c =
    let gives = rw c.in-Some-Ok.field-0-is at c.in-Some-Ok.ensures.steps in
    let type = c.announced_type-announced.ensures c.loop-unit.peel.expected c.kind.ensures in
    let taken = rw (c.read_fields.ensures, type) at c.take.ensures.taken in
    let marked = rw c.read_fields.ensures at c.take.ensures.marked in (
      c.take.ensures.len ∙ c.loop-unit.invariant.0,
      λ is none. looks_next c.args.start c.args.frame.now c.loop-unit.peel c.next.new.self c.in-Some-Ok.unit
          c.loop-unit.seen c.take.new.seen c.loop-unit.ids c.take.new.ids (λ i. omega (arith, c.type_inv.frame i))
          (c.loop-unit.invariant.1 is none) gives taken marked c.take.ensures.len,
    )

pub returns-in-Some-Err : goal.returns-in-Some-Err
returns-in-Some-Err c is none room w at walk =
    let gives = rw c.in-Some-Err.field-0-is at c.in-Some-Err.ensures.steps in
    let type = c.announced_type-announced.ensures c.loop-unit.peel.expected c.kind.ensures in
    let enough : c.loop-unit.seen.has_more ≡ true → 64 ≤ length c.loop-unit.ids =
    λ more. subst (λ (m : ℕ). 64 ≤ m) (sym c.loop-unit.invariant.0) (room more) in
    looks_fault c.args.start c.args.frame.now c.loop-unit.peel c.next.new.self c.in-Some-Err.field-0-0
    c.loop-unit.seen c.loop-unit.ids c.announced_type-announced.result w (c.loop-unit.invariant.1 is none) enough gives
    type at walk

pub returns-in-None : goal.returns-in-None
returns-in-None c is none room w at walk =
    let type = c.announced_type-announced.ensures c.loop-unit.peel.expected c.kind.ensures in
    let enough : c.loop-unit.seen.has_more ≡ true → 64 ≤ length c.loop-unit.ids =
    λ more. subst (λ (m : ℕ). 64 ≤ m) (sym c.loop-unit.invariant.0) (room more) in
    looks_none c.args.start c.args.frame.now c.loop-unit.peel c.next.new.self c.loop-unit.seen c.loop-unit.ids
    c.announced_type-announced.result w (c.loop-unit.invariant.1 is none) enough c.in-None.ensures.steps type at walk
