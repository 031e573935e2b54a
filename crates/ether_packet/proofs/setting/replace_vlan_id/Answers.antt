use Rattle.std.proofs.Common.{rules}
use Rattle.ether_packet.proofs.SetTags.{is_set}
use Rattle.ether_packet.proofs.setting.replace_vlan_id.Goals as goal

pub returns-clause-some : goal.returns-clause-some
returns-clause-some c hs e walk = search (rules, is_set)
