use Rattle.std.proofs.Common.{ap, arith, ◌+◌, ◌≡◌, subst, ℕ, [], ◌∷◌}
use Rattle.std.specs.Prelude.{None}
use Rattle.ether_peel.specs.Walker.Start.{start_of}
use Rattle.ether_peel.proofs.Walker.UnderWay.{no_none, no_fault}
use Rattle.ether_peel.specs.Walker.UnitHeader.{unit_header}
use Rattle.ether_packet.specs.declared.finding.PlacedExt.{PlacedExt}
use Rattle.ether_packet.specs.Replacing.{ext_count, IsPlacedExt}
use Rattle.ether_packet.proofs.Reached.{Reached, reached_first, reached_unit, reached_end, placed_ext, ext_room, one_counted}
use Rattle.ether_packet.proofs.finding.ext_at.Goals as goal

pub loop-unit-init : goal.loop-unit-init
loop-unit-init c = (
  omega arith,
  reached_first (start_of c.args.start) c.args.frame.now c.new-peel.result c.new-peel.ensures.state
      c.new-peel.ensures.walk,
)

is_placed : goal.returns-then-count-index-clause-ok
is_placed c hs e walk =
    let gives = rw c.in-Some-Ok.field-0-is at c.in-Some-Ok.ensures.steps in
    let found : PlacedExt = record { at = c.offset-at.result; header = c.in-Some.header } in
    subst (λ (i : ℕ). IsPlacedExt hs i found) c.if-count-index.true
    (placed_ext (start_of c.args.start) c.args.frame.now c.loop-unit.peel c.next.new.self hs e c.loop-unit.count
    c.in-Some-Ok.unit found (λ i. omega (arith, c.type_inv.frame i)) c.loop-unit.invariant.1 gives walk
    c.in-Some.ensures c.offset-at.ensures.value)

pub returns-then-count-index-clause-ok : goal.returns-then-count-index-clause-ok
returns-then-count-index-clause-ok c hs e walk = is_placed c hs e walk

pub returns-then-count-index-clause-room : goal.returns-then-count-index-clause-room
returns-then-count-index-clause-room c =
    let w = c.new-peel.ensures.walk in
    ext_room (start_of c.args.start) c.args.frame.now w.headers w.ending c.args.index _ w.walk
    (is_placed c w.headers w.ending w.walk)

pub overflow_add-count : goal.overflow_add-count
overflow_add-count c = omega (arith, c.loop-unit.invariant.0, c.if-count-index.false, c.ranges.index.fits)

pub loop-unit-preserved-in-Some : goal.loop-unit-preserved-in-Some
loop-unit-preserved-in-Some c = (
  omega (arith, c.loop-unit.invariant.0, c.if-count-index.false),
  (let gives = rw c.in-Some-Ok.field-0-is at c.in-Some-Ok.ensures.steps in
      let more =
      ap (λ (n : ℕ). c.loop-unit.count + n)
      (one_counted c.in-Some.header (unit_header c.in-Some-Ok.unit) c.in-Some.ensures) in
      subst (Reached (start_of c.args.start) c.args.frame.now c.next.new.self) more
      (reached_unit (start_of c.args.start) c.args.frame.now c.loop-unit.peel c.next.new.self c.loop-unit.count
      c.in-Some-Ok.unit (λ i. omega (arith, c.type_inv.frame i)) c.loop-unit.invariant.1 gives)),
)

pub loop-unit-preserved : goal.loop-unit-preserved
loop-unit-preserved c = (
  c.loop-unit.invariant.0,
  (let gives = rw c.in-Some-Ok.field-0-is at c.in-Some-Ok.ensures.steps in
      let same : c.loop-unit.count + ext_count (unit_header c.in-Some-Ok.unit ∷ []) ≡ c.loop-unit.count =
      omega (arith, c.in_default.ensures) in
      subst (Reached (start_of c.args.start) c.args.frame.now c.next.new.self) same
      (reached_unit (start_of c.args.start) c.args.frame.now c.loop-unit.peel c.next.new.self c.loop-unit.count
      c.in-Some-Ok.unit (λ i. omega (arith, c.type_inv.frame i)) c.loop-unit.invariant.1 gives)),
)

pub returns-in-Some-Err-clause-none : goal.returns-in-Some-Err-clause-none
returns-in-Some-Err-clause-none c hs e walk =
    let gives = rw c.in-Some-Err.field-0-is at c.in-Some-Err.ensures.steps in
    let end =
    reached_end (start_of c.args.start) c.args.frame.now c.loop-unit.peel c.next.new.self _ c.loop-unit.count hs e
    (no_fault c.in-Some-Err.field-0-0) c.loop-unit.invariant.1 gives walk in
    (end.1, c.loop-unit.invariant.0)

pub returns-in-None-clause-none : goal.returns-in-None-clause-none
returns-in-None-clause-none c hs e walk =
    let end =
    reached_end (start_of c.args.start) c.args.frame.now c.loop-unit.peel c.next.new.self None c.loop-unit.count hs e
    no_none c.loop-unit.invariant.1 c.in-None.ensures.steps walk in
    (end.1, c.loop-unit.invariant.0)
