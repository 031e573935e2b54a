use Rattle.std.proofs.Common.{◌++◌, Bool, [], ap, sym}
use Rattle.std.specs.Prelude.{codes, if◌then◌else◌, nat_eq}
use Rattle.std.specs.Fmt.{decimal}
use Rattle.std.proofs.lemmas.Bool.{ne_eqb}
use Rattle.ether_output.proofs.OutputBufferLemmas.{Takes-then, Takes-same}
use Rattle.ether_format.proofs.json_bytes.write_reserved.Goals as goal

pub returns-then-bits-ne0 : goal.returns-then-bits-ne0
returns-then-bits-ne0 g c =
    Takes-same
    (sym (ap (λ (b : Bool). if b then [] else codes ",\"reserved\":" ++ decimal c.args.bits)
    (ne_eqb c.args.bits 0 c.if-bits-ne0.true)))
    (Takes-then c.append.ensures c.write_decimal.ensures)
