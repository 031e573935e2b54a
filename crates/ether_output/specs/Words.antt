-- Words for what a walk says, and whether it ends with a fault.
use Rattle.std.specs.Prelude.{ℕ, List, codes, Bool, true, false}
use Rattle.etherparse.specs.Types.LenSource.{LenSource}
use Rattle.etherparse.specs.Types.LenSource.TheVariants as sources
use Rattle.ether_peel.specs.Grammar.Stack.{Ending, Accepted, Fault}

abbrev pub source_text : LenSource → List ℕ
source_text sources.Slice = codes "slice"
source_text sources.MacsecShortLength = codes "macsec_short_length"
source_text sources.Ipv4HeaderTotalLen = codes "ipv4_total_len"
source_text sources.Ipv6HeaderPayloadLen = codes "ipv6_payload_len"
source_text sources.UdpHeaderLen = codes "udp_len"
source_text sources.TcpHeaderLen = codes "tcp_len"
source_text sources.ArpAddrLengths = codes "arp_addr_lengths"

abbrev pub is_accepted : Ending → Bool
is_accepted (Accepted w x) = true
is_accepted (Fault w x r) = false
