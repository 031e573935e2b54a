use Rattle.std.proofs.Common.{rules}
use Rattle.ether_packet.proofs.SetTags.{is_set}
use Rattle.ether_packet.proofs.setting.set_vlan_id.Goals as goal

pub returns-clause-ok : goal.returns-clause-ok
returns-clause-ok c hs e walk = search (rules, is_set)
