use Rattle.ether_pcap.proofs.classic.file_header_error.FileHeaderErrorDisplay.fmt.Goals as goal

pub returns-in-Version-clause-writes : goal.returns-in-Version-clause-writes
returns-in-Version-clause-writes g c plain ok = rw c.in-Version.is (c.write-in-Version.ensures.writes plain ok)
