use Rattle.ether_content.proofs.selecting.selects.Goals as goal

pub returns : goal.returns
returns c = c.selects.ensures c.args.filter.now c.instructions.ensures
