use Rattle.std.proofs.Common.{rules}
use Rattle.ether_base.proofs.SupportedHardware.{radiotap_is_supported, frame_relay_is_supported}
use Rattle.ether_base.proofs.linux_sll_protocol_type.LinuxSllProtocolTypeTryFromNumberOnLink.try_from.Goals as goal

pub returns-in-IEEE80211_RADIOTAP : goal.returns-in-IEEE80211_RADIOTAP
returns-in-IEEE80211_RADIOTAP c = search (rules, radiotap_is_supported)

pub returns-in-FRAD : goal.returns-in-FRAD
returns-in-FRAD c = search (rules, frame_relay_is_supported)
