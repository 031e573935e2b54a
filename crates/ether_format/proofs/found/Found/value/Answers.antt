use Rattle.std.proofs.Common.{◌≤◌, sym, ◌∙◌, arith}
use Rattle.ether_format.specs.FoundHeaders.{found_values}
use Rattle.ether_format.proofs.ColumnLemmas.{after_five}
use Rattle.ether_format.proofs.found.Found.value.Goals as goal

pub returns : goal.returns
returns c =
    let le : 5 ≤ c.args.index = let below = c.if-index-lt-PLACE_LEN.false in omega (arith, below) in
    c.own_value.ensures ∙ sym (after_five _ _ _ _ _ (found_values c.args.self.now.header) c.args.index le)
