use Rattle.std.proofs.Common.{◌∙◌}
use Rattle.ether_pcap.specs.Views.{order_of}
use Rattle.ether_pcap.proofs.WrittenBlocks.{written_modulo}
use Rattle.ether_pcap.proofs.word_bytes.len_word.Goals as goal

pub returns : goal.returns
returns c = c.word.ensures.bytes ∙ written_modulo (order_of c.args.order) c.args.len
