use Rattle.ether_filter.proofs.jumps.+fill.Given as goal

abbrev pub decreases-fill : goal.decreases-fill
decreases-fill l = l.end
