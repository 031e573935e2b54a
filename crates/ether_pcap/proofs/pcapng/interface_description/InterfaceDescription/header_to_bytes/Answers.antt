use Rattle.std.proofs.Common.{◌≡◌, ◌++◌, append_assoc}
use Rattle.ether_pcap.specs.Writing.{bytes_of}
use Rattle.ether_pcap.specs.WritingBlocks.{interface_head, interface_block_len}
use Rattle.ether_pcap.specs.Views.{order_of}
use Rattle.ether_pcap.specs.PcapngViews.{interface_view}
use Rattle.ether_pcap.proofs.WrittenBlocks.{interface_read}
use Rattle.ether_pcap.proofs.pcapng.interface_description.InterfaceDescription.header_to_bytes.Goals as goal

pub returns-clause-read_back : goal.returns-clause-read_back
returns-clause-read_back c =
    let order = order_of c.args.self.now.byte_order in
    let i = interface_view c.args.self.now in
    let front = bytes_of order 4 1 ++ bytes_of order 4 (interface_block_len i) in
    let value : c.four_words.result ≡ front ++ interface_head order i =
    rw (
      c.four_words.ensures,
      c.word.ensures.bytes,
      c.len_word.ensures,
      c.half_words.ensures.bytes,
      c.word-2.ensures.bytes,
    )
    (append_assoc front (bytes_of order 2 i.link_type ++ bytes_of order 2 0) (bytes_of order 4 i.snap_len)) in
    interface_read order c.four_words.result i value c.half_words.ensures.first c.word-2.ensures.number
