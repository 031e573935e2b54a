use Rattle.ether_base.proofs.Numbers.{spelled-number, number-spelled, number_below, length-spelled, IsBytes-spelled}
use Rattle.ether_base.proofs.laws.numbers_are_bytes.Goals as goal

pub returns : goal.returns
returns c = record {
  read = spelled-number;
  written = number-spelled;
  below = number_below;
  len = length-spelled;
  bytes = IsBytes-spelled;
}
