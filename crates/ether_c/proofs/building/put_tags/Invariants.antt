use Rattle.std.proofs.Common.{◌≡◌, ◌≤◌, length, take}
use Rattle.ether_c.specs.Building.{AreExts}
use Rattle.ether_c.proofs.building.put_tags.Given as goal

abbrev pub invariant-loop-i : goal.invariant-loop-i
invariant-loop-i l = (l.i ≤ 8) × (length l.tags ≡ 8) × AreExts (take l.i l.units) (take l.i l.tags)
