use Rattle.ether_pcap.specs.PcapngViews.{block_view, section_refusal_view}
use Rattle.ether_pcap.proofs.UnitsRead.{section_read, section_refused}
use Rattle.ether_pcap.proofs.capture.reader_state.read_section.Goals as goal

pub returns-in-Ok-clause-unit : goal.returns-in-Ok-clause-unit
returns-in-Ok-clause-unit c state interfaces not =
    section_read c.args.bytes.now state interfaces c.in-Ok.section.byte_order (block_view c.in-Ok.section.block)
    c.block_len.result not c.in-Ok.ensures.section c.block_len.ensures

pub returns-in-Err-clause-refused : goal.returns-in-Err-clause-refused
returns-in-Err-clause-refused c most state interfaces not =
    section_refused most c.args.bytes.now state interfaces (section_refusal_view c.in-Err.error) not c.requires
    c.in-Err.ensures.refused
