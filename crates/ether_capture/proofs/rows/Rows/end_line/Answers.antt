use Rattle.ether_capture.specs.RowFields.{lines_of}
use Rattle.ether_capture.proofs.RowsLemmas.{line_ends}
use Rattle.ether_capture.proofs.rows.Rows.end_line.Goals as goal

pub returns : goal.returns
returns g c text so_far =
    line_ends g.G.Grouping.is_joint text c.args.self.now c.take_line.new.self c.clear.new.self so_far
    (c.in_ok-take_line.ensures (lines_of text) so_far.0) c.clear.ensures
