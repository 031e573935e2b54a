use Rattle.std.proofs.Common.{◌∙◌, sym, ap}
use Rattle.std.specs.Fmt.{decimal}
use Rattle.std.proofs.lemmas.Bool.{eqb-true}
use Rattle.ether_output.proofs.OutputBufferLemmas.{Takes-none, Takes-then, Takes-same}
use Rattle.ether_format.proofs.SpellingLemmas.{dotted_none, dotted_parts, some_are}
use Rattle.ether_format.proofs.spelling.write_dotted.Goals as goal

pub returns-then-is_empty : goal.returns-then-is_empty
returns-then-is_empty g c =
    Takes-same (dotted_none c.args.bytes.now (eqb-true _ _ (sym c.is_empty.ensures ∙ c.if-is_empty.true)))
    (Takes-none g.W.Sink.contents g.W.Sink.can_fail c.args.out.now)

pub returns : goal.returns
returns g c =
    Takes-same (dotted_parts c.args.bytes.now
    (some_are c.args.bytes.now (sym c.is_empty.ensures ∙ c.if-is_empty.false)))
    (Takes-then (Takes-same (ap decimal c.from.ensures) c.write_decimal.ensures) c.write_dots_after.ensures)
