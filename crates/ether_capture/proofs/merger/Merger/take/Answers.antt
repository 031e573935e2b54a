use Rattle.std.proofs.Common.{◌≡◌, ◌++◌, ◌∷◌, [], List, ℕ, ap, refl, sym, subst, append_assoc, ◌∙◌}
use Rattle.ether_capture.specs.Merges.{Merges, RefusesIn}
use Rattle.ether_capture.proofs.MergerLemmas.{line_goes_on, other_later}
use Rattle.ether_format.specs.Splits.{SplitsAt}
use Rattle.ether_capture.proofs.ResultLemmas.{err_is}
use Rattle.ether_capture.proofs.RowsLemmas.{next_part}
use Rattle.ether_capture.proofs.merger.Merger.take.Goals as goal

pub loop-before-preserved : goal.loop-before-preserved
loop-before-preserved c text begun =
    let so_far = c.loop-before.invariant text begun in
    let done = so_far.0 in
    let before = c.in-Some.before.now in
    let is = c.in-Some.ensures.some in
    let taken = c.in_ok-end_line.ensures.taken ((text ++ done) ++ before)
    (line_goes_on (text ++ done) before c.loop-before.self _ is.none_before so_far.2
    refl refl c.in_ok-append.ensures) in (
      done ++ (before ++ 10 ∷ []),
      next_part c.args.bytes.now done c.loop-before.rest.now before c.in-Some.after.now so_far.1 is,
      subst (λ (l : List ℕ). Merges l c.end_line.new.self)
          (append_assoc (text ++ done) before (10 ∷ []) ∙ append_assoc text done (before ++ 10 ∷ [])) taken,
    )

pub returns-in_err-end_line-clause-refused : goal.returns-in_err-end_line-clause-refused
returns-in_err-end_line-clause-refused c text begun =
    let so_far = c.loop-before.invariant text begun in
    let done = so_far.0 in
    let before = c.in-Some.before.now in
    let is = c.in-Some.ensures.some in
    let refused = c.in_err-end_line.ensures.refused ((text ++ done) ++ before)
    (line_goes_on (text ++ done) before c.loop-before.self _ is.none_before so_far.2
    refl refl c.in_ok-append.ensures) in
    err_is (RefusesIn (text ++ c.args.bytes.now)) c.from_residual-in_err-end_line.result c.in_err-end_line.field-0.0
    c.from_residual-in_err-end_line.ensures.1
    (subst (λ (l : List ℕ). RefusesIn l c.in_err-end_line.field-0.0)
    (all text done before c.in-Some.after.now so_far.1 is)
    (other_later (((text ++ done) ++ before) ++ 10 ∷ []) c.in-Some.after.now c.in_err-end_line.field-0.0 refused))
  where
    all : (text done before after : List ℕ) → c.args.bytes.now ≡ done ++ c.loop-before.rest.now
        → SplitsAt 10 c.loop-before.rest.now before after
        → (((text ++ done) ++ before) ++ 10 ∷ []) ++ after ≡ text ++ c.args.bytes.now
    all text done before after parts is =
        append_assoc ((text ++ done) ++ before) (10 ∷ []) after ∙ append_assoc (text ++ done) before (10 ∷ after)
        ∙ ap (λ (l : List ℕ). (text ++ done) ++ l) (sym is.parts) ∙ append_assoc text done c.loop-before.rest.now
        ∙ ap (λ (l : List ℕ). text ++ l) (sym parts)

pub returns-clause-taken : goal.returns-clause-taken
returns-clause-taken c text begun =
    let so_far = c.loop-before.invariant text begun in
    subst (λ (l : List ℕ). Merges l (record c.loop-before.self { line = c.append-2.new.self }))
    (append_assoc text so_far.0 c.loop-before.rest.now ∙ ap (λ (l : List ℕ). text ++ l) (sym so_far.1))
    (line_goes_on (text ++ so_far.0) c.loop-before.rest.now c.loop-before.self
    (record c.loop-before.self { line = c.append-2.new.self }) c.in_default.ensures.none so_far.2 refl refl
    c.in_ok-append-2.ensures)
