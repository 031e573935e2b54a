use Rattle.ether_capture.proofs.program.carry_out_request.Goals as goal

pub returns-in_default-clause-done : goal.returns-in_default-clause-done
returns-in_default-clause-done g c =
    rw (← c.statistics.ensures, c.in_default.is) (c.write_lines_or_copy.ensures.done g.J.Journal.is_known)

pub returns-then-counting-clause-done : goal.returns-then-counting-clause-done
returns-then-counting-clause-done g c =
    rw (← c.statistics.ensures, c.in-Some.is)
    (record {
      rows = _;
      end = c.write_lines_or_copy-outcome.result;
      done = rw c.new-counts.ensures at (c.write_lines_or_copy-outcome.ensures.done g.J.Journal.is_known);
      shown = rw c.if-counting.true c.write_counts.ensures.shown;
    })

pub returns-else-counting-clause-done : goal.returns-else-counting-clause-done
returns-else-counting-clause-done g c =
    rw (← c.statistics.ensures, c.in-Some.is)
    (record {
      rows = _;
      end = c.write_lines_or_copy-outcome-else-counting.result;
      done = rw c.new-counts-else-counting.ensures at (c.write_lines_or_copy-outcome-else-counting.ensures.done
          g.J.Journal.is_known);
      shown = rw c.if-counting.false c.write_counts-else-counting.ensures.shown;
    })
