use Rattle.std.proofs.Common.{◌≡◌}
use Rattle.ether_switch.specs.Stations.{without}
use Rattle.ether_switch.proofs.Mapped.{mapped_to}
use Rattle.ether_switch.proofs.forgetting.forget.Given as goal

abbrev pub invariant-loop-bucket : goal.invariant-loop-bucket
invariant-loop-bucket l = l.table ≡ mapped_to (without l.which) l.bucket-index l.initial.table
