use Rattle.ether_filter.proofs.ShortSecTags.{unread_short, unread_long}
use Rattle.ether_filter.proofs.prospect.of_nothing.Goals as goal

pub returns-then-room-lt8 : goal.returns-then-room-lt8
returns-then-room-lt8 c = unread_short c.args.room c.requires c.if-room-lt8.true

pub returns : goal.returns
returns c = unread_long c.args.room c.if-room-lt8.false
