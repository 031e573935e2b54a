use Rattle.std.proofs.Common.{◌≡◌, length, rules}
use Rattle.ether_pcap.specs.Writing.{WritesRecordHeader}
use Rattle.ether_pcap.specs.Views.{order_of, record_view}
use Rattle.ether_pcap.proofs.Writing.{record_back}
use Rattle.ether_pcap.proofs.classic.pcap_record.PcapRecord.header_to_bytes.Goals as goal

pub returns-clause-read_back : goal.returns-clause-read_back
returns-clause-read_back c =
    let bytes = c.joined.result in
    let order = order_of c.args.byte_order in
    let r = record_view c.args.self.now in
    let len : length bytes ≡ 16 = search rules in
    let writes : WritesRecordHeader order bytes r = search rules in
    λ le rest. record_back order bytes rest r len writes le
