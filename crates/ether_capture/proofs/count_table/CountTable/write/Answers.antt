use Rattle.std.proofs.Common.{◌++◌, List, ℕ, [], ap, subst, ◌∙◌}
use Rattle.std.specs.List.{flat_map}
use Rattle.ether_output.specs.OutputBuffer.{Takes}
use Rattle.ether_capture.specs.Statistics.{statistics_line}
use Rattle.ether_output.proofs.OutputBufferLemmas.{Takes-none, Takes-then, Takes-same}
use Rattle.ether_capture.proofs.StatisticsLemmas.{all_lines, are_rows, entry_line, next_line}
use Rattle.ether_capture.proofs.count_table.CountTable.write.Goals as goal

pub loop-key-init : goal.loop-key-init
loop-key-init g c = (
  [],
  Takes-none g.W.Sink.contents g.W.Sink.can_fail c.args.out.now,
  ap (flat_map (entry_line c.args.format)) (c.into_iter-key-iterator.ensures.into_iter_gives
      ∙ c.iter-key-items.ensures.rest),
)

pub loop-key-preserved : goal.loop-key-preserved
loop-key-preserved g c =
    let so_far = c.loop-key.invariant in
    let taken =
    subst
    (λ (k : List ℕ).
    Takes g.W.Sink.contents g.W.Sink.can_fail c.loop-key.out
    (statistics_line c.args.format (record { key = k; count = c.in-Some.count.now })) c.write_statistic.new.out)
    c.as_slice.ensures.value c.write_statistic.ensures in (
      so_far.0 ++ entry_line c.args.format (c.in-Some.key.now, c.in-Some.count.now),
      Takes-then so_far.1 taken,
      next_line c.args.format so_far.0 c.args.self.now.counts.entries c.loop-key.key-iterator c.next.new.self
          (c.in-Some.key.now, c.in-Some.count.now) so_far.2 c.in-Some.ensures.steps,
    )

pub returns : goal.returns
returns g c =
    let so_far = c.loop-key.invariant in
    record {
      rows = _;
      are_rows = are_rows c.args.self.now.counts c.iter-key-items.ensures.ordered;
      taken = Takes-same (all_lines c.args.format so_far.0 c.args.self.now.counts.entries c.loop-key.key-iterator
          so_far.2 c.in-None.ensures.steps.0) so_far.1;
    }
