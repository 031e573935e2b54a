use Rattle.ether_pcap.specs.OptionReading.{OptionsState}
use Rattle.ether_pcap.proofs.UnitOptions.{gives_option}
use Rattle.ether_pcap.proofs.pcapng.pcapng_options.PcapngOptionsIterator.next.Goals as goal

pub returns-clause-steps : goal.returns-clause-steps
returns-clause-steps c =
    let a = c.self.inside in
    let s : OptionsState = record { byte_order = a.byte_order; rest = a.rest.now } in
    let g = gives_option s c.in_ok-option.option c.in_ok-option.ensures in
    rw (← c.self.view_is, c.bytes_from-self-inside.ensures, c.option_len.ensures) g
