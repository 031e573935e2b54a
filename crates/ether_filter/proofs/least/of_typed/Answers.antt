use Rattle.ether_filter.proofs.LeastTypes.{prospect_kept}
use Rattle.ether_filter.proofs.least.of_typed.Goals as goal

pub returns-clause-prospect : goal.returns-clause-prospect
returns-clause-prospect c kind is more ok few short =
    prospect_kept kind c.args.known.now more c.args.room c.args.len c.type_at.result c.requires.least is ok few
    c.requires.long c.type_at.ensures short
