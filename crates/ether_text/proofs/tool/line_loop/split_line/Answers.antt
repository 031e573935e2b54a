use Rattle.ether_text.proofs.tool.InputLinesLemmas.{HasNoLineFeed-skipped, SplitsAtLineFeed-skipped}
use Rattle.ether_text.proofs.tool.line_loop.split_line.Goals as goal

pub returns-in-Some-clause-some : goal.returns-in-Some-clause-some
returns-in-Some-clause-some c =
    SplitsAtLineFeed-skipped c.args.bytes.now c.blocks_len-skipped.result c.in-Some.piece.now c.in-Some.after.now
    c.blocks_len-skipped.ensures.within c.blocks_len-skipped.ensures.none c.in-Some.ensures.some

pub returns-in-None-clause-none : goal.returns-in-None-clause-none
returns-in-None-clause-none c =
    HasNoLineFeed-skipped c.args.bytes.now c.blocks_len-skipped.result c.blocks_len-skipped.ensures.none
    c.in-None.ensures.none
