use Rattle.ether_output.proofs.OutputBufferLemmas.{Takes-then, Takes-same}
use Rattle.ether_format.proofs.JsonLemmas.{end_whole}
use Rattle.ether_format.proofs.json.write_json_end.Goals as goal

pub returns : goal.returns
returns g c =
    Takes-same (end_whole c.args.end.now) (Takes-then c.write_end_front.ensures c.append.ensures)
