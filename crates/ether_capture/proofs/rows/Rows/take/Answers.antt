use Rattle.std.proofs.Common.{◌++◌, ◌∷◌, [], List, ℕ, ap, sym, subst, append_assoc, ◌∙◌}
use Rattle.ether_capture.specs.Tabulating.{Tabulates}
use Rattle.ether_capture.proofs.RowsLemmas.{next_part}
use Rattle.ether_capture.proofs.rows.Rows.take.Goals as goal

pub loop-before-preserved : goal.loop-before-preserved
loop-before-preserved g c text begun =
    let so_far = c.loop-before.invariant text begun in
    let done = so_far.0 in
    let before = c.in-Some.before.now in
    let is = c.in-Some.ensures.some in
    let taken = c.in_ok-end_line.ensures ((text ++ done) ++ before)
    (c.in_ok-extend_line.ensures g.G.Grouping.is_joint (text ++ done) so_far.2 is.none_before) in (
      done ++ (before ++ 10 ∷ []),
      next_part c.args.bytes.now done c.loop-before.rest.now before c.in-Some.after.now so_far.1 is,
      subst (λ (l : List ℕ). Tabulates g.G.Grouping.is_joint l c.end_line.new.self)
          (append_assoc (text ++ done) before (10 ∷ []) ∙ append_assoc text done (before ++ 10 ∷ [])) taken,
    )

pub returns : goal.returns
returns g c text begun =
    let so_far = c.loop-before.invariant text begun in
    subst (λ (l : List ℕ). Tabulates g.G.Grouping.is_joint l c.extend_line-2.new.self)
    (append_assoc text so_far.0 c.loop-before.rest.now ∙ ap (λ (l : List ℕ). text ++ l) (sym so_far.1))
    (c.in_ok-extend_line-2.ensures g.G.Grouping.is_joint (text ++ so_far.0) so_far.2 c.in_default.ensures.none)
