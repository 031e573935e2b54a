use Rattle.ether_stream.proofs.usage.UsageDisplay.fmt.Goals as goal

pub returns-in-Value-clause-writes : goal.returns-in-Value-clause-writes
returns-in-Value-clause-writes g c plain ok =
    rw (c.in-Value.is, ← c.name-name-in-Value.ensures, ← c.expected-expected.ensures)
    (c.write-in-Value.ensures.writes plain ok)

pub returns-in-Lacks-clause-writes : goal.returns-in-Lacks-clause-writes
returns-in-Lacks-clause-writes g c plain ok =
    rw (c.in-Lacks.is, ← c.name-name.ensures, ← c.needed-needed.ensures) (c.write-in-Lacks.ensures.writes plain ok)
