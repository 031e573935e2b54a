use Rattle.std.proofs.Common.{◌≡◌, ℕ, ◌<◌, Bool, not, ◌&&◌, ◌||◌, ap, ◌∙◌}
use Rattle.ether_switch.specs.declared.vlan_config.VlanConfig.{VlanConfig}
use Rattle.ether_switch.specs.declared.received.Received.{Received}
use Rattle.ether_switch.specs.Ports.{has}
use Rattle.ether_switch.specs.Vlans.{row_of}
use Rattle.ether_switch.specs.Relaying.{static_ports, may_leave, goes_to, is_mirror}
use Rattle.ether_switch.proofs.bridge.Bridge.relay.Goals as goal

pub returns : goal.returns
returns c =
    let self = c.args.self.now in
    let a = c.args.arrived.now in
    let from = c.args.from in
    let row = row_of self.vlans.now a.vlan in
    let goes : (p : ℕ) → Bool =
    λ p. goes_to (static_ports self.static_entries.now a.vlan a.destination) c.args.known p in
    let leaves : (p : ℕ) → p < 256
    → has c.leaves-leaves.result p ≡ (may_leave self.ports.now row from p && goes p) =
    λ p lt. c.leaves-leaves.ensures p lt
    ∙ ap (λ (v : VlanConfig). may_leave self.ports.now v from p && goes p) c.requires in
    let mirrors : (p : ℕ) → p < 256 → has c.remove.new.self p ≡ is_mirror self.ports.now from p =
    c.remove.ensures in
    let untagged : (p : ℕ) → has c.args.vlan.now.untagged p ≡ has row.untagged p =
    λ p. ap (λ (v : VlanConfig). has v.untagged p) c.requires in
    let is = c.received.ensures in
    record {
      kind = ap (λ (r : Received). r.kind) is;
      vlan = ap (λ (r : Received). r.vlan) is;
      priority = ap (λ (r : Received). r.priority) is;
      drop_eligible = ap (λ (r : Received). r.drop_eligible) is;
      reserved = ap (λ (r : Received). r.reserved) is;
      tagged = λ p lt. ap (λ (r : Received). has r.tagged p) is
          ∙ c.union-tagged.ensures p lt
          ∙ ap (λ (b : Bool). has c.remove.new.self p || b) (c.difference.ensures p lt)
          ∙ (λ i. mirrors p lt i || (leaves p lt i && not (untagged p i)));
      untagged = λ p lt. ap (λ (r : Received). has r.untagged p) is
          ∙ c.difference-untagged.ensures p lt
          ∙ ap (λ (b : Bool). b && not (has c.remove.new.self p)) (c.intersection.ensures p lt)
          ∙ (λ i. leaves p lt i && untagged p i && not (mirrors p lt i));
    }
