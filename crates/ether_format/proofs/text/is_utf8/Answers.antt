use Rattle.std.proofs.Common.{◌∙◌}
use Rattle.ether_format.proofs.TextLemmas.{utf8_of}
use Rattle.ether_format.proofs.text.is_utf8.Goals as goal

pub returns : goal.returns
returns c = c.is_ok.ensures.value ∙ utf8_of c.args.text.now _ _ c.from_utf8.result c.from_utf8.ensures.cases
