use Rattle.std.proofs.Common.{◌≡◌, ◌<◌, length, rules}
use Rattle.ether_pcap.specs.Writing.{WritesFileHeader}
use Rattle.ether_pcap.specs.Views.{file_header_view}
use Rattle.ether_pcap.proofs.Writing.{file_header_back}
use Rattle.ether_pcap.proofs.classic.file_header.FileHeader.to_bytes.Goals as goal

pub returns-clause-read_back : goal.returns-clause-read_back
returns-clause-read_back c =
    let bytes = c.joined.result in
    let h = file_header_view c.args.self.now in
    let len : length bytes ≡ 24 = search rules in
    let writes : WritesFileHeader bytes h = search rules in
    let fits : h.link_type < 65536 = c.link_word.ensures.fits in
    λ has rest. file_header_back bytes rest h len writes fits has
