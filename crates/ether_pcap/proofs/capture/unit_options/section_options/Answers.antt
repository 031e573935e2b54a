use Rattle.std.proofs.Common.{rules}
use Rattle.ether_pcap.specs.OptionReading.{section}
use Rattle.ether_pcap.specs.PcapngViews.{block_view}
use Rattle.ether_pcap.proofs.UnitOptions.{none_in_section}
use Rattle.ether_pcap.proofs.capture.unit_options.section_options.Goals as goal

pub returns-in-Ok : goal.returns-in-Ok
returns-in-Ok c state other =
    rw (c.from_slice-in-Ok.ensures, c.bytes_from.ensures)
    (section state c.in-Ok.section.byte_order (block_view c.in-Ok.section.block) other c.in-Ok.ensures.section)

pub returns-in-Err : goal.returns-in-Err
returns-in-Err c state other order options = search (rules, none_in_section)
