use Rattle.std.proofs.Common.{sym, ap, ◌∙◌}
use Rattle.etherparse.proofs.Numbers.{spelled-high}
use Rattle.ether_output.specs.HexText.{hex_text}
use Rattle.ether_text.specs.Lines.{sci_text}
use Rattle.ether_output.proofs.OutputBufferLemmas.{Takes-same}
use Rattle.ether_text.proofs.write_lines.write_sci.Goals as goal

pub returns-in-Some : goal.returns-in-Some
unfolding sci_text
returns-in-Some g c =
    let digits = c.hex_long.ensures ∙ ap hex_text (c.to_be_bytes.ensures ∙ spelled-high 8 c.in-Some.sci) in
    Takes-same (digits ∙ ap sci_text (sym c.in-Some.is)) c.append.ensures

pub returns-in-None : goal.returns-in-None
unfolding sci_text
returns-in-None g c = Takes-same (ap sci_text (sym c.in-None.is)) c.append-in-None.ensures
