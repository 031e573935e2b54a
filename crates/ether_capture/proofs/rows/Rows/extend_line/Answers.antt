use Rattle.ether_capture.proofs.RowsLemmas.{line_goes_on}
use Rattle.ether_capture.proofs.rows.Rows.extend_line.Goals as goal

pub returns : goal.returns
returns c joint text so_far none =
    line_goes_on joint text c.args.bytes.now c.args.self.now c.append.new.self none so_far c.in_ok-append.ensures
