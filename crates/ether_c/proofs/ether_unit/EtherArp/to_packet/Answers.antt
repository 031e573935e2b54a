use Rattle.std.proofs.Common.{rules}
use Rattle.ether_c.proofs.Addresses.{address_len, never_refused}
use Rattle.ether_c.proofs.ether_unit.EtherArp.to_packet.Goals as goal

pub returns-in-Err : goal.returns-in-Err
returns-in-Err c = search (rules, never_refused, address_len)
