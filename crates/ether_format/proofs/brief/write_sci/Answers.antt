use Rattle.std.proofs.Common.{sym, ap, ◌∙◌, take}
use Rattle.etherparse.proofs.Numbers.{spelled-high}
use Rattle.ether_output.proofs.OutputBufferLemmas.{Takes-same, Takes-then}
use Rattle.ether_format.specs.Brief.{sci_text}
use Rattle.ether_format.specs.Spelling.{colon_text}
use Rattle.ether_format.proofs.brief.write_sci.Goals as goal

pub returns-in-Some : goal.returns-in-Some
returns-in-Some g c =
    let address = c.first_of.ensures ∙ ap (take 6) (c.to_be_bytes.ensures ∙ spelled-high 8 c.in-Some.sci) in
    Takes-same (ap sci_text (sym c.in-Some.is))
    (Takes-then c.append.ensures
    (Takes-then (Takes-same (ap colon_text address) c.write_colons.ensures) c.write_number.ensures))
