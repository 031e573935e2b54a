use Rattle.std.proofs.Common.{ap, sym}
use Rattle.std.specs.List.{flat_map}
use Rattle.ether_output.proofs.OutputBufferLemmas.{Takes-same}
use Rattle.ether_format.specs.FoundHeaders.{found_keyed}
use Rattle.ether_format.specs.Values.{keyed_text}
use Rattle.ether_format.proofs.json.write_own.Goals as goal

pub returns-in-CookedV2 : goal.returns-in-CookedV2
returns-in-CookedV2 g c =
    Takes-same (ap (λ h. flat_map keyed_text (found_keyed h)) (sym c.in-CookedV2.is)) c.write_linux_sll2.ensures
