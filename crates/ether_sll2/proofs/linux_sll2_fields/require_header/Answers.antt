use Rattle.ether_sll2.specs.LinuxSll2.{short}
use Rattle.ether_sll2.proofs.linux_sll2_fields.require_header.Goals as goal

pub returns-then-slice-lt-LEN-clause-refused : goal.returns-then-slice-lt-LEN-clause-refused
returns-then-slice-lt-LEN-clause-refused c = short c.if-slice-lt-LEN.true
