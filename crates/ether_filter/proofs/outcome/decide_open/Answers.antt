use Rattle.std.proofs.Common.{◌≡◌, ◌+◌, ◌-◌, length, arith, sym, subst, ℕ}
use Rattle.std.proofs.lemmas.Bool.{not-true, not-false}
use Rattle.ether_filter.specs.Needed.{IsLeast, IsUndecided}
use Rattle.ether_filter.proofs.Decided.{says_matches, says_fails, says_needs}
use Rattle.ether_filter.proofs.LeastWithoutFcs.{needed_before}
use Rattle.ether_filter.proofs.outcome.decide_open.Goals as goal

pub returns-then-not-can : goal.returns-then-not-can
returns-then-not-can c free packet hs ok len few is are ks e =
    says_matches packet ks e c.args.primitive c.possible-can.result free (c.possible-can.ensures free packet hs ok is
    are)
    (not-true _ c.if-not-can.true)

pub returns-then-not-can-2 : goal.returns-then-not-can-2
returns-then-not-can-2 c free packet hs ok len few is are ks e =
    says_fails packet ks e c.args.primitive c.possible-can.result free (c.possible-can.ensures free packet hs ok is are)
    (not-true _ c.if-not-can-2.true)

pub returns : goal.returns
returns c free packet hs ok len few is are ks e =
    let can = c.possible-can.ensures free packet hs ok is are in
    let undecided : IsUndecided packet c.args.primitive =
    (can.matches.0 (not-false _ c.if-not-can-2.false), can.fails.0 (not-false _ c.if-not-can.false)) in
    let least = c.least-needed.ensures free packet hs ok is are undecided in
    let within = needed_before packet c.args.primitive _ least in
    let sum : c.args.len + c.min.result
    ≡ length packet.frame.now + (c.least-needed.result - length c.args.unit.known.now) =
    omega (arith, len, few, within, c.min.ensures, c.saturating_sub-further.ensures) in
    says_needs packet ks e c.args.primitive _ free undecided
    (subst (λ (n : ℕ). IsLeast packet c.args.primitive n) (sym sum) least)
