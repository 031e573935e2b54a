use Rattle.std.proofs.Common.{◌≡◌}
use Rattle.ether_pcap.specs.Section.{section_type}
use Rattle.ether_pcap.specs.Writing.{bytes_of}
use Rattle.ether_pcap.specs.WritingBlocks.{section_body}
use Rattle.ether_pcap.specs.Editing.{block_bytes}
use Rattle.ether_pcap.specs.Views.{order_of}
use Rattle.ether_pcap.proofs.WrittenBlocks.{section_joined, section_read}
use Rattle.ether_pcap.proofs.pcapng.section_header.SectionHeader.to_bytes.Goals as goal

pub returns-clause-read_back : goal.returns-clause-read_back
returns-clause-read_back c rest =
    let order = order_of c.args.byte_order in
    let value : c.seven_words.result ≡ block_bytes order (bytes_of order 4 section_type) (section_body order) =
    rw (
      c.seven_words.ensures,
      c.four_words.ensures,
      c.word.ensures.bytes,
      c.word-2.ensures.bytes,
      c.word-total_len.ensures.bytes,
      c.word-no_len.ensures.bytes,
      c.half_words.ensures.bytes,
    )
    (section_joined order) in
    rw value (section_read order rest)
