use Rattle.std.proofs.Common.{subst}
use Rattle.ether_filter.specs.Deciding.{IsFieldKnown, Says}
use Rattle.ether_filter.specs.Deciding as deciding
use Rattle.ether_filter.specs.Evaluation.{IsOpening}
use Rattle.ether_filter.proofs.Known.{test_decided}
use Rattle.ether_filter.proofs.deciding.decide_field.Goals as goal
use Rattle.ether_filter.proofs.deciding.decide_field.Goals.{in-Some+else-not-is_known, in_default}

pub returns-then-not-is_known : goal.returns-then-not-is_known
returns-then-not-is_known c hs e walk at =
    let packet = c.args.packet.now in
    let open_at = subst (IsOpening packet e) c.in-Some.is at in
    let known = c.is_known.ensures packet hs e walk (c.matches_field-holds.ensures hs e walk) open_at in
    (λ k. let t = known.1 k in cc, open_at.0)

pub returns : goal.returns
returns c hs e walk at =
    let packet = c.args.packet.now in
    let holds = c.matches_field-holds.ensures hs e walk in
    elim c.match-opening.branch [
      | in-Some+else-not-is_known w ↦
          let known = w.is_known.ensures packet hs e walk holds (subst (IsOpening packet e) w.in-Some.is at) in
          test_decided packet hs e c.args.test _ _ c.decided.ensures (known.0 w.if-not-is_known.false) holds
      | in_default w ↦
          test_decided packet hs e c.args.test _ _ c.decided.ensures
          (deciding.whole (subst (IsOpening packet e) w.in_default.is at)) holds
    ]
