use Rattle.std.proofs.Common.{◌∙◌, ap, sym, inl, inr}
use Rattle.ether_capture.specs.Program.{is_unwritten}
use Rattle.ether_capture.proofs.laws.counts_are_written.Goals as goal

pub returns : goal.returns
returns g c counting request before after outcome counted failed =
    elim counted.shown [
      | inl (same, written, shown) ↦ absurd (let e = sym failed ∙ ap is_unwritten same ∙ written in cc)
      | inr other ↦ elim other [
        | inl (memory, same) ↦ absurd (let e = sym failed ∙ ap is_unwritten memory in cc)
        | inr (output, can) ↦ can
      ]
    ]
