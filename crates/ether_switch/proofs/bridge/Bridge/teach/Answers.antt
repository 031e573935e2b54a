use Rattle.std.proofs.Common.{◌≡◌, true, Bool, ◌&&◌, is_none, if◌then◌else◌, ap, ◌∙◌, rules}
use Rattle.ether_switch.specs.Ports.{has}
use Rattle.ether_switch.specs.Stations.{learned}
use Rattle.ether_switch.specs.Relaying.{sighting}
use Rattle.ether_switch.specs.Vlans.{row_of}
use Rattle.ether_switch.proofs.bridge.Bridge.teach.Goals as goal

pub returns : goal.returns
returns c =
    let self = c.args.self.now in
    let table = c.args.table.now in
    let a = c.args.arrived.now in
    let s = sighting c.args.now c.args.from a in
    let learns : true ≡ (is_none c.args.refused && has self.ports.now.learning c.args.from) = search rules in
    c.learn.ensures
    ∙ (λ i. learned self.key self.ageing_time (c.requires.vlan i) s table)
    ∙ ap (λ (b : Bool).
    if b then learned self.key self.ageing_time (row_of self.vlans.now a.vlan) s table else table) learns
