use Rattle.std.proofs.Common.{◌≡◌, ◌+◌, drop}
use Rattle.ether_c.specs.FieldViews.{put_all, AreIn, c_table}
use Rattle.ether_c.proofs.field_putting.put_table.Given as goal

abbrev pub invariant-loop-place : goal.invariant-loop-place
invariant-loop-place l =
    (l.next ≡ l.at + l.place-index)
    × (put_all l.fields l.next (c_table l.bytes l.unit l.start (drop l.place-index l.table))
    ≡ put_all l.fn.fields l.at (c_table l.bytes l.unit l.start l.table))
    × AreIn l.bytes l.start (drop l.place-index l.table)
