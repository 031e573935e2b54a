use Rattle.std.proofs.Common.{◌≡◌, refl}
use Rattle.ether_pcap.specs.WritingBlocks.{nanosecond_bytes}
use Rattle.ether_pcap.specs.Views.{order_of}
use Rattle.ether_pcap.proofs.WrittenBlocks.{nanoseconds_read}
use Rattle.ether_pcap.proofs.pcapng.interface_description.InterfaceDescription.nanosecond_options.Goals as goal

pub returns-clause-read_back : goal.returns-clause-read_back
returns-clause-read_back c =
    let order = order_of c.args.byte_order in
    let value : c.three_words.result ≡ nanosecond_bytes order =
    rw (c.three_words.ensures, c.half_words.ensures.bytes, c.half_words-2.ensures.bytes) refl in
    rw value (nanoseconds_read order)
