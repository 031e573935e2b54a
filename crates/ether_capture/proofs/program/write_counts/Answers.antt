use Rattle.std.proofs.Common.{ap, inl, inr, refl, rules, sym, ◌∙◌}
use Rattle.ether_capture.proofs.program.write_counts.Goals as goal

pub returns-then-has_failed-clause-shown : goal.returns-then-has_failed-clause-shown
returns-then-has_failed-clause-shown g c = inr (inl (refl, refl))

pub returns-in-Ok-clause-shown : goal.returns-in-Ok-clause-shown
returns-in-Ok-clause-shown g c =
    inl (refl, sym c.is_unwritten.ensures ∙ c.if-is_unwritten.false, c.in-Ok.ensures.written (search rules))

pub returns-in-Memory-clause-shown : goal.returns-in-Memory-clause-shown
returns-in-Memory-clause-shown g c =
    inr
    (inl (
      refl,
      elim c.in-Err.ensures.failed [
        | inl memory ↦ ap g.W.Sink.contents memory.1
        | inr output ↦ let is = sym c.in-Memory.is ∙ output.0 in absurd cc
      ],
    ))

pub returns-in_default-clause-shown : goal.returns-in_default-clause-shown
returns-in_default-clause-shown g c =
    inr
    (inr (
      refl,
      elim c.in-Err.ensures.failed [
        | inl memory ↦ absurd (c.in_default.not-Memory memory.0)
        | inr output ↦ output.1
      ],
    ))
