use Rattle.std.proofs.Common.{ap, ◌∙◌, take}
use Rattle.std.proofs.lemmas.List.{take_min}
use Rattle.ether_format.proofs.spelling.first_of.Goals as goal

pub returns : goal.returns
returns c = ap (λ n. take n c.args.bytes.now) c.min.ensures ∙ take_min c.args.len c.args.bytes.now
