use Rattle.std.proofs.Common.{rules}
use Rattle.ether_packet.proofs.SetTags.{is_sec_tag, no_ext}
use Rattle.ether_packet.proofs.setting.vlan_at.Goals as goal

pub returns-in-Macsec-clause-refused : goal.returns-in-Macsec-clause-refused
returns-in-Macsec-clause-refused c hs e walk = search (rules, is_sec_tag)

pub returns-in-Err-clause-refused : goal.returns-in-Err-clause-refused
returns-in-Err-clause-refused c hs e walk = no_ext hs c.args.index c.in-Err.count (c.in-Err.ensures.none hs e walk)
