use Rattle.std.proofs.Common.{◌∙◌, arith}
use Rattle.ether_make.proofs.CheckLemmas.{complement}
use Rattle.ether_make.proofs.check_sequence.complemented.Goals as goal

pub returns : goal.returns
returns c = c.to_le_bytes.ensures ∙ complement c.args.register (omega arith)
