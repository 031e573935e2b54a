use Rattle.std.proofs.Common.{rules}
use Rattle.ether_make.proofs.WrongWordLemmas.{need_alone, need_with_value}
use Rattle.ether_make.proofs.wrong_words.long_need.Goals as goal

pub returns-in-Some : goal.returns-in-Some
returns-in-Some c = search (rules, need_with_value)

pub returns-in-None : goal.returns-in-None
returns-in-None c = search (rules, need_alone)
