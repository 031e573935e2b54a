use Rattle.std.proofs.Common.{rules}
use Rattle.ether_base.proofs.ArrayElements.{cells-all}
use Rattle.ether_pcap.proofs.classic.file_header.joined.Goals as goal

pub returns-clause-magic : goal.returns-clause-magic
returns-clause-magic c = cells-all 4 c.args.magic (search rules)

pub returns-clause-major : goal.returns-clause-major
returns-clause-major c = cells-all 2 c.args.major (search rules)

pub returns-clause-minor : goal.returns-clause-minor
returns-clause-minor c = cells-all 2 c.args.minor (search rules)

pub returns-clause-snap_len : goal.returns-clause-snap_len
returns-clause-snap_len c = cells-all 4 c.args.snap_len (search rules)

pub returns-clause-link : goal.returns-clause-link
returns-clause-link c = cells-all 4 c.args.link (search rules)
