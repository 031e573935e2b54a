use Rattle.std.proofs.Common.{arith}
use Rattle.std.specs.Option.{option_map}
use Rattle.ether_capture.specs.RowFields.{fields_if, row_fields}
use Rattle.ether_output.proofs.OutputBufferLemmas.{Takes-then, Takes-same}
use Rattle.ether_capture.proofs.KeyMemberLemmas.{tuple_text}
use Rattle.ether_capture.proofs.key_members.write_key_members.Goals as goal

pub returns-then-number-gt2 : goal.returns-then-number-gt2
returns-then-number-gt2 g c =
    Takes-same
    (tuple_text (row_fields c.args.key.now) (fields_if (option_map (λ s. s.now) c.write_texts-values.result))
    c.field_count-number.result c.field_count-number.ensures (omega (arith, c.if-number-gt2.true))
    c.write_texts-values.ensures.rest)
    (Takes-then c.append.ensures
    (Takes-then c.write_texts-values.ensures.written
    (Takes-then c.append-then-number-gt2.ensures c.write_texts.ensures.written)))
