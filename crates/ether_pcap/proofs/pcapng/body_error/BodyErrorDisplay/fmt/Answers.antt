use Rattle.ether_pcap.proofs.pcapng.body_error.BodyErrorDisplay.fmt.Goals as goal

pub returns-in-Len-clause-writes : goal.returns-in-Len-clause-writes
returns-in-Len-clause-writes g c plain ok = rw c.in-Len.is (c.write.ensures.writes plain ok)
