use Rattle.ether_text.proofs.tool.DigitTableLemmas.{entry_decoded, entry_refused}
use Rattle.ether_text.proofs.tool.digit_table.entry.Goals as goal

pub returns-in-Ok : goal.returns-in-Ok
returns-in-Ok c =
    entry_decoded c.args.character _ _ _ c.in-Ok.is (rw c.as_slice.ensures at c.decode_to_slice.ensures.value)

pub returns-in-Err : goal.returns-in-Err
returns-in-Err c =
    entry_refused c.args.character _ c.decode_to_slice.new.out _ c.in-Err.is
    (rw c.as_slice.ensures at c.decode_to_slice.ensures.value)
