use Rattle.std.proofs.Common.{rules}
use Rattle.ether_base.proofs.ArrayElements.{cells-all}
use Rattle.ether_pcap.proofs.classic.pcap_record.joined.Goals as goal

pub returns-clause-seconds : goal.returns-clause-seconds
returns-clause-seconds c = cells-all 4 c.args.seconds (search rules)

pub returns-clause-fraction : goal.returns-clause-fraction
returns-clause-fraction c = cells-all 4 c.args.fraction (search rules)

pub returns-clause-captured_len : goal.returns-clause-captured_len
returns-clause-captured_len c = cells-all 4 c.args.captured_len (search rules)

pub returns-clause-original_len : goal.returns-clause-original_len
returns-clause-original_len c = cells-all 4 c.args.original_len (search rules)
