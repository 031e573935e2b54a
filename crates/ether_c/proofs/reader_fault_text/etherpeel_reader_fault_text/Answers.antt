use Rattle.ether_c.proofs.UnitsRead.{refused_text}
use Rattle.ether_c.proofs.reader_fault_text.etherpeel_reader_fault_text.Goals as goal

pub returns-in-Some-Err-clause-given : goal.returns-in-Some-Err-clause-given
returns-in-Some-Err-clause-given c =
    refused_text c.args.bytes.now c.args.reader.now c.args.interfaces.now c.in-Some-Err.error c.args.text.now
    c.put_text.new.target c.put_text.result.0 c.put_text.result.1
    (rw c.in-Some-Err.field-0-is at c.in-Some-Err.ensures.read) c.put_text.ensures
