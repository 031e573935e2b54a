use Rattle.std.proofs.Common.{rules}
use Rattle.ether_c.proofs.BuiltTags.{next_ext, refused_at, too_many_at}
use Rattle.ether_c.proofs.building.put_tags.Goals as goal

pub returns-in-Err-clause-refused : goal.returns-in-Err-clause-refused
returns-in-Err-clause-refused c = search (rules, refused_at)

pub returns-then-i-ge-MAX_TAGS-clause-refused : goal.returns-then-i-ge-MAX_TAGS-clause-refused
returns-then-i-ge-MAX_TAGS-clause-refused c = search (rules, too_many_at)

pub loop-i-preserved : goal.loop-i-preserved
loop-i-preserved c = search (rules, next_ext)
