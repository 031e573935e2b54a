use Rattle.std.proofs.Common.{◌∙◌, sym}
use Rattle.std.proofs.lemmas.Bool.{eqb-true}
use Rattle.ether_output.proofs.OutputBufferLemmas.{Takes-none, Takes-then, Takes-same}
use Rattle.ether_format.proofs.SpellingLemmas.{colon_none, colon_parts, some_are}
use Rattle.ether_format.proofs.spelling.write_colons.Goals as goal

pub returns-then-is_empty : goal.returns-then-is_empty
returns-then-is_empty g c =
    Takes-same (colon_none c.args.bytes.now (eqb-true _ _ (sym c.is_empty.ensures ∙ c.if-is_empty.true)))
    (Takes-none g.W.Sink.contents g.W.Sink.can_fail c.args.out.now)

pub returns : goal.returns
returns g c =
    Takes-same (colon_parts c.args.bytes.now (some_are c.args.bytes.now (sym c.is_empty.ensures ∙ c.if-is_empty.false)))
    (Takes-then (Takes-same c.digit_pair.ensures c.append_array.ensures) c.write_colons_after.ensures)
