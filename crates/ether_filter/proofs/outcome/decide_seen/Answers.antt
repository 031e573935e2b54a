use Rattle.std.proofs.Common.{sym, subst, ap, ◌∙◌, inl, inr, true, false, refl}
use Rattle.ether_filter.specs.declared.cut_walk.CutEnd.{CutEnd}
use Rattle.ether_filter.specs.CutWalks.{EndsAs, is_refusal}
use Rattle.ether_filter.proofs.Decided.{certain_says}
use Rattle.ether_filter.proofs.SeenOutcomes.{seen_told}
use Rattle.ether_filter.proofs.outcome.decide_seen.Goals as goal

pub returns-in-Open : goal.returns-in-Open
returns-in-Open c free ok walk ks e =
    let packet = c.args.packet.now in
    let open_at = subst (λ (e : CutEnd). EndsAs packet walk.headers e) c.in-Open.is walk.ends in
    c.decide_open.ensures free packet walk.headers ok refl (sym c.lost.ensures.value) open_at
    (seen_told packet walk.headers c.args.seen.now c.args.ids.now c.args.primitive _ walk.shows
    (walk.refused ∙ ap is_refusal c.in-Open.is) c.has_tag.ensures (c.matches_seen-is_match.ensures free)) ks e

pub returns-in-Refused : goal.returns-in-Refused
returns-in-Refused c free ok walk hs e =
    let packet = c.args.packet.now in
    elim c.in-Refused.is [
      | inl refused ↦
          certain_says packet walk.headers c.args.seen.now c.args.ids.now c.args.primitive hs e c.decided.result
          c.matches_seen-is_match.result true free
          (subst (λ (e : CutEnd). EndsAs packet walk.headers e) refused walk.ends)
          (walk.refused ∙ ap is_refusal refused) walk.shows (c.matches_seen-is_match.ensures free) c.decided.ensures
      | inr accepted ↦
          certain_says packet walk.headers c.args.seen.now c.args.ids.now c.args.primitive hs e c.decided.result
          c.matches_seen-is_match.result false free
          (subst (λ (e : CutEnd). EndsAs packet walk.headers e) accepted walk.ends)
          (walk.refused ∙ ap is_refusal accepted) walk.shows (c.matches_seen-is_match.ensures free) c.decided.ensures
    ]
