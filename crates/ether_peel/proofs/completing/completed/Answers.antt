use Rattle.std.proofs.Common.{rules, length, sym, subst, arith}
use Rattle.std.specs.Prelude.{slice_range}
use Rattle.ether_peel.specs.Walker.Start.{start_with}
use Rattle.ether_peel.specs.Grammar.Completion.{Completes}
use Rattle.ether_peel.proofs.Walker.ShownRefusal.{Found, found, nothing, Filled, filled}
use Rattle.ether_peel.proofs.completing.completed.Goals as goal
use Rattle.ether_peel.proofs.completing.completed.Goals.{In-Len, In_ok-plan}

-- the open refusal of a length
here : (c : In-Len) → Found (start_with c.args.start c.args.limit) c.args.bytes.now c.in_ok-fault.fault c.in-Len.error
here c =
    found (start_with c.args.start c.args.limit) c.args.bytes.now c.summarized.result c.in_ok-fault.fault c.in-Len.error
    c.summarized.ensures c.in_ok-fault.was c.if-fault.false c.in-Len.is

pub slice_bounds-begun-count : goal.slice_bounds-begun-count
slice_bounds-begun-count c = (here c).inside

pub slice_bounds-begun-start : goal.slice_bounds-begun-start
slice_bounds-begun-start c = let le = (here (goal.at.slice_bounds-begun-start c).In-Len).inside in search (rules, le)

pub planned-requires : goal.planned-requires
planned-requires c = (here (goal.at.planned-requires c).In-Len).short

pub returns-in_err-plan : goal.returns-in_err-plan
returns-in_err-plan c =
    let none =
    nothing (start_with c.args.start c.args.limit) c.args.bytes.now c.summarized.result c.in_ok-fault.fault
    c.in-Len.error c.summarized.ensures c.in_ok-fault.was c.in-Len.is
    (here (goal.at.returns-in_err-plan c).In-Len) c.in_err-plan.ensures in
    rw c.from_residual-in_err-plan.ensures none

-- the unit that is begun there can be completed
full : (c : In_ok-plan)
    → Found (start_with c.args.start c.args.limit) c.args.bytes.now c.in_ok-fault.fault c.in-Len.error
    → Filled (start_with c.args.start c.args.limit) c.args.bytes.now
    (slice_range c.args.bytes.now c.in_ok-fault.fault.offset (length c.args.bytes.now)) c.in_ok-plan.plan.total
    c.in_ok-plan.plan.ether_type_at
full c a =
    filled (start_with c.args.start c.args.limit) c.args.bytes.now c.in_ok-fault.fault c.in-Len.error
    c.in_ok-plan.plan.total c.in_ok-plan.plan.ether_type_at (λ i. omega (arith, c.type_inv.bytes i)) a
    c.in_ok-plan.ensures.0 c.in_ok-plan.ensures.1

pub fill-requires-clause-short : goal.fill-requires-clause-short
fill-requires-clause-short c =
    (full (goal.at.fill-requires-clause-short c).In_ok-plan (here (goal.at.fill-requires-clause-short c).In-Len)).short

pub fill-requires-clause-fits : goal.fill-requires-clause-fits
fill-requires-clause-fits c =
    (full (goal.at.fill-requires-clause-fits c).In_ok-plan (here (goal.at.fill-requires-clause-fits c).In-Len)).most

pub returns : goal.returns
returns c =
    subst (Completes (start_with c.args.start c.args.limit) c.args.bytes.now) (sym c.fill.ensures)
    (full (goal.at.returns c).In_ok-plan (here (goal.at.returns c).In-Len)).completes
