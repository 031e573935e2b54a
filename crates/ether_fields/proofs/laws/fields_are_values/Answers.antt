use Rattle.ether_fields.proofs.BitNumbers.{bits_part}
use Rattle.ether_fields.proofs.FieldValues.{header_placed, trailer_placed, linux_sll2_placed}
use Rattle.ether_fields.proofs.laws.fields_are_values.Goals as goal

pub returns : goal.returns
returns c = record {
  header = header_placed;
  trailer = trailer_placed;
  linux_sll2 = linux_sll2_placed;
  part = bits_part;
}
