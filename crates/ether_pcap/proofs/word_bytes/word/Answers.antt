use Rattle.std.proofs.Common.{ap, sym, ◌∙◌, rules}
use Rattle.ether_pcap.specs.Numbers.{number_in}
use Rattle.ether_pcap.specs.Views.{order_of}
use Rattle.ether_pcap.proofs.Numbers.{bytes_are}
use Rattle.ether_pcap.proofs.word_bytes.word.Goals as goal

pub returns-clause-bytes : goal.returns-clause-bytes
returns-clause-bytes c = search (rules, bytes_are)

pub returns-clause-number : goal.returns-clause-number
returns-clause-number c = ap (number_in (order_of c.args.order)) (sym (returns-clause-bytes c)) ∙ c.bytes_of_u32.ensures
