use Rattle.std.proofs.Common.{◌∙◌, Option, refl, sym, subst}
use Rattle.std.specs.Io.KnownBytes.{Appends}
use Rattle.ether_output.proofs.KnownBytesLemmas.{Appends-none}
use Rattle.ether_format.specs.declared.format.Format.{Format}
use Rattle.ether_capture.specs.Program.{failed, headed, heading_if}
use Rattle.ether_stream.specs.declared.outcome.Outcome.TheVariants as outcomes
use Rattle.ether_capture.proofs.program.write_lines_or_copy.Goals as goal

pub returns-in-Ok-clause-done : goal.returns-in-Ok-clause-done
returns-in-Ok-clause-done g c =
    λ is_known. rw c.in-Run.is
    (headed _ _
    (subst
    (λ (h : Option Format). Appends (g.W.Sink.contents c.args.writer.now)
    (g.W.Sink.contents c.write_heading.new.writer) (heading_if h))
    c.format.ensures c.in-Ok.ensures.written)
    (c.run_job.ensures.run _))

pub returns-in-Run-clause-done : goal.returns-in-Run-clause-done
returns-in-Run-clause-done g c =
    λ is_known. let fault = c.in-Err.ensures.failed in
    rw c.in-Run.is (failed fault.1.0 (sym c.format.ensures ∙ fault.1.1) fault.0 refl)

pub returns-in-Ok-write_heading-clause-done : goal.returns-in-Ok-write_heading-clause-done
returns-in-Ok-write_heading-clause-done g c =
    λ is_known. rw c.in-List.is
    (headed (outcomes.Files c.run_files.result) (g.W.Sink.contents c.write_heading-in-List.new.writer)
    (subst
    (λ (h : Option Format).
    Appends (g.W.Sink.contents c.args.writer.now) (g.W.Sink.contents c.write_heading-in-List.new.writer) (heading_if h))
    c.format-in-List.ensures c.in-Ok-write_heading.ensures.written)
    (c.run_files.ensures.listed _))

pub returns-in-List-clause-done : goal.returns-in-List-clause-done
returns-in-List-clause-done g c =
    λ is_known. let fault = c.in-Err-write_heading.ensures.failed in
    rw c.in-List.is (failed fault.1.0 (sym c.format-in-List.ensures ∙ fault.1.1) fault.0 refl)

pub returns-in-Help-clause-done : goal.returns-in-Help-clause-done
returns-in-Help-clause-done g c = λ is_known. rw c.in-Help.is
    (headed outcomes.Help (g.W.Sink.contents c.args.writer.now) (Appends-none _) refl)

pub returns-clause-done : goal.returns-clause-done
returns-clause-done g c = λ is_known. rw c.in-Version.is
    (headed outcomes.Version (g.W.Sink.contents c.args.writer.now) (Appends-none _) refl)

pub returns-in-Merge-clause-done : goal.returns-in-Merge-clause-done
returns-in-Merge-clause-done g c = λ is_known. rw c.in-Merge.is
    (headed c.merge_counts.result (g.W.Sink.contents c.args.writer.now) (Appends-none _)
    (c.merge_counts.ensures.merged, refl))
