use Rattle.std.proofs.Common.{rules}
use Rattle.ether_pcap.proofs.CopiedUnits.{unit_room, section_changed, other_changed}
use Rattle.ether_pcap.proofs.capture.reader_state.ReaderState.changed_unit.Goals as goal

pub returns-in-Classic-clause-bytes : goal.returns-in-Classic-clause-bytes
returns-in-Classic-clause-bytes c most interfaces x begins = search (rules, unit_room)

pub returns-in-Section-clause-bytes : goal.returns-in-Section-clause-bytes
returns-in-Section-clause-bytes c most interfaces x begins = search (rules, unit_room, section_changed)

pub returns-in-Section-2-clause-bytes : goal.returns-in-Section-2-clause-bytes
returns-in-Section-2-clause-bytes c most interfaces x begins = search (rules, unit_room, other_changed)
