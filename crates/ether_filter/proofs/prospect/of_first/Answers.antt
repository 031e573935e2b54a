use Rattle.std.proofs.Common.{arith}
use Rattle.ether_filter.proofs.ShortSecTags.{modified_first, unmodified_first, refused_first}
use Rattle.ether_filter.proofs.prospect.of_first.Goals as goal

pub returns-then-first-ge128 : goal.returns-then-first-ge128
returns-then-first-ge128 c =
    refused_first c.args.first c.args.room c.tag_len-len.result (omega (arith, c.ranges.first))
    c.requires c.tag_len-len.ensures c.then-first-ge128.either

pub returns-then-is_modified : goal.returns-then-is_modified
returns-then-is_modified c =
    modified_first c.args.first c.args.room c.tag_len-len.result c.is_modified.result
    c.if-first-ge128.false c.requires c.tag_len-len.ensures c.if-room-len.false c.is_modified.ensures
    c.if-is_modified.true

pub returns : goal.returns
returns c =
    unmodified_first c.args.first c.args.room c.tag_len-len.result c.is_modified.result
    c.if-first-ge128.false c.requires c.tag_len-len.ensures c.if-room-len.false c.is_modified.ensures
    c.if-is_modified.false
