use Rattle.ether_content.proofs.selecting.is_undecided.Goals as goal

pub returns : goal.returns
returns c = c.is_undecided.ensures c.args.filter.now c.instructions.ensures
