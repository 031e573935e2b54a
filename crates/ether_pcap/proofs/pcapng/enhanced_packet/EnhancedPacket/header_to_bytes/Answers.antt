use Rattle.ether_pcap.specs.WritingBlocks.{packet_block_len}
use Rattle.ether_pcap.specs.Views.{order_of}
use Rattle.ether_pcap.specs.PcapngViews.{enhanced_packet_view}
use Rattle.ether_pcap.proofs.WrittenBlocks.{PacketFits, written_modulo, packet_joined, packet_read}
use Rattle.ether_pcap.proofs.pcapng.enhanced_packet.EnhancedPacket.header_to_bytes.Goals as goal

pub returns-clause-value : goal.returns-clause-value
returns-clause-value c =
    let order = order_of c.args.byte_order in
    let p = enhanced_packet_view c.args.self.now in
    rw (
      c.seven_words.ensures,
      c.four_words.ensures,
      c.word.ensures.bytes,
      c.word-2.ensures.bytes,
      c.block_len.ensures,
      c.word-3.ensures.bytes,
      c.word-4.ensures.bytes,
      c.word-5.ensures.bytes,
      c.len_word.ensures,
      c.word-6.ensures.bytes,
      written_modulo order (packet_block_len p),
    )
    (packet_joined order p (packet_block_len p))

pub returns-clause-read_back : goal.returns-clause-read_back
returns-clause-read_back c =
    let order = order_of c.args.byte_order in
    let p = enhanced_packet_view c.args.self.now in
    let fits : PacketFits order p =
    record {
      interface = c.word-3.ensures.number;
      upper = c.word-4.ensures.number;
      lower = c.word-5.ensures.number;
      original_len = c.word-6.ensures.number;
    } in
    packet_read order p c.seven_words.result (returns-clause-value c) fits
