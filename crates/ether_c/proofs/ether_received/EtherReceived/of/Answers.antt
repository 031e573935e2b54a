use Rattle.std.proofs.Common.{rules}
use Rattle.ether_c.proofs.ReceivedGiven.{read_back}
use Rattle.ether_c.proofs.ether_received.EtherReceived.of.Goals as goal

pub returns-in-Ok-clause-read_back : goal.returns-in-Ok-clause-read_back
returns-in-Ok-clause-read_back c = search (rules, read_back)
