use Rattle.ether_output.proofs.OutputBufferLemmas.{Takes-then, Takes-same}
use Rattle.ether_format.specs.Spelling.{seconds_text}
use Rattle.ether_format.proofs.spelling.write_seconds.Goals as goal

pub returns : goal.returns
unfolding seconds_text
returns g c =
    Takes-then c.write_decimal.ensures (Takes-then c.append.ensures
    (Takes-same c.nine_digits.ensures c.append_array.ensures))
