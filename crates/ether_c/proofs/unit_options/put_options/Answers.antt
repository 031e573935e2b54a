use Rattle.std.proofs.Common.{arith}
use Rattle.ether_c.proofs.OptionsGiven.{options_first, options_more, options_end}
use Rattle.ether_c.proofs.unit_options.put_options.Goals as goal

pub loop-option-init : goal.loop-option-init
loop-option-init c =
    rw c.into_iter-option-iterator.ensures.into_iter_gives
    (omega arith, options_first c.args.found c.args.options.now)

pub loop-option-preserved : goal.loop-option-preserved
loop-option-preserved c = (
  let less = c.in-Some.ensures.goes.on tt in omega (arith, less.2, c.loop-option.invariant.0),
  options_more c.args.found c.loop-option.option-iterator c.next.new.self c.in-Some.option c.loop-option.count
      c.args.options.now c.loop-option.options c.put.new.options c.of.result c.loop-option.invariant.1
      c.in-Some.ensures.steps c.of.ensures c.put.ensures,
)

pub returns : goal.returns
returns c all has =
    options_end c.args.found c.loop-option.option-iterator c.next.new.self c.loop-option.count c.args.options.now
    c.loop-option.options c.loop-option.invariant.1 c.in-None.ensures.steps all has
