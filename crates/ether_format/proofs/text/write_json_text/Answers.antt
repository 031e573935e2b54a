use Rattle.std.proofs.Common.{Bool, ap}
use Rattle.std.specs.List.{flat_map}
use Rattle.ether_output.proofs.OutputBufferLemmas.{Takes-same, Takes-then}
use Rattle.ether_format.specs.Spelling.{json_byte, json_text}
use Rattle.ether_format.proofs.text.write_json_text.Goals as goal

pub returns : goal.returns
unfolding json_text
returns g c =
    Takes-then c.append.ensures
    (Takes-then
    (Takes-same (ap (λ (b : Bool). flat_map (json_byte b) c.args.text.now) c.is_utf8.ensures)
    c.write_json_bytes.ensures)
    c.append-2.ensures)
