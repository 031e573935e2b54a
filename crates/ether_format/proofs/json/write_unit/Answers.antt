use Rattle.std.proofs.Common.{ap, sym}
use Rattle.std.specs.List.{flat_map}
use Rattle.ether_output.proofs.OutputBufferLemmas.{Takes-same}
use Rattle.ether_format.specs.Values.{keyed_text, unit_keyed}
use Rattle.ether_format.proofs.json.write_unit.Goals as goal

pub returns-in-LinuxSll : goal.returns-in-LinuxSll
returns-in-LinuxSll g c =
    Takes-same (ap (λ u. flat_map keyed_text (unit_keyed u)) (sym c.in-LinuxSll.is)) c.write_linux_sll.ensures

pub returns-in-Macsec : goal.returns-in-Macsec
returns-in-Macsec g c =
    Takes-same (ap (λ u. flat_map keyed_text (unit_keyed u)) (sym c.in-Macsec.is)) c.write_macsec.ensures
