use Rattle.std.proofs.Common.{◌∙◌}
use Rattle.ether_switch.specs.Stations.{sighting_of}
use Rattle.ether_switch.proofs.bridge.Bridge.sighting.Goals as goal

pub returns : goal.returns
returns c =
    c.find.ensures
    ∙ (λ i. sighting_of c.args.self.now.key (c.row.ensures i) (c.address_of.ensures.value i) c.args.table.now)
