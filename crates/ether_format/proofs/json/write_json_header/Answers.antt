use Rattle.std.proofs.Common.{◌++◌, ap}
use Rattle.ether_output.proofs.OutputBufferLemmas.{Takes-then, Takes-same}
use Rattle.ether_format.specs.Values.{comma_if}
use Rattle.ether_format.proofs.JsonLemmas.{found_object}
use Rattle.ether_format.proofs.json.write_json_header.Goals as goal

pub returns : goal.returns
returns g c =
    let f = c.args.found.now in
    Takes-same (ap (λ l. comma_if c.args.is_first ++ l) (found_object f f.own))
    (Takes-then c.write_comma.ensures
    (Takes-then c.write_placed.ensures (Takes-then c.write_own.ensures c.append.ensures)))
