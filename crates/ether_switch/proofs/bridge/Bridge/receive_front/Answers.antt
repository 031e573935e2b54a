use Rattle.std.proofs.Common.{◌≡◌, Option, Result, Ok, sym, ap, subst, ◌∙◌}
use Rattle.ether_switch.specs.declared.arrival.Arrived.{Arrived}
use Rattle.ether_switch.specs.declared.arrival.Discarded.{Discarded}
use Rattle.ether_switch.specs.Arrivals.{Front, front_view, refusal}
use Rattle.ether_switch.specs.Ports.{has}
use Rattle.ether_switch.specs.Relaying.{settings_of, Event, Answer, answered, taught, refused_in, with_front, arrival_by, arrival, after_arrival, after, answer_arrival, answer, Returns}
use Rattle.ether_switch.specs.Stations.{known_port}
use Rattle.ether_switch.specs.Vlans.{row_of}
use Rattle.ether_switch.proofs.bridge.Bridge.receive_front.Goals as goal

pub returns : goal.returns
returns c hs is =
    let self = c.args.self.now in
    let s = settings_of self in
    let from = c.args.from in
    let port = c.args.port.now in
    let f = front_view c.args.front.now in
    let a = c.in_ok-arrived.arrived in
    let table = c.args.table.now in
    let row = row_of self.vlans.now a.vlan in
    let v : Event = record { settings = s; now = c.args.now; from = from; port = port; hs = hs } in
    let arrived : arrival v ≡ Ok (f, a) =
    ap (arrival_by port) is ∙ ap (with_front f) (sym c.in_ok-arrived.ensures.value) in
    let refused : c.refusal-refused.result ≡ refused_in v f a =
    c.refusal-refused.ensures
    ∙ ap (λ (m : _). refusal self.kind port m f)
    (c.contains.ensures ∙ (λ i. has (c.row-vlan.ensures i).members from)) in
    let left : c.teach.new.table ≡ after v table =
    c.teach.ensures
    ∙ ap (λ (r : Option Discarded). taught s c.args.now from r a table) refused
    ∙ sym (ap (λ (x : Result (Front × Arrived) Discarded). after_arrival v x table) arrived) in
    let known : c.port_of-known.result
    ≡ known_port self.key self.ageing_time c.args.now row a.destination (after v table) =
    c.port_of-known.ensures
    ∙ (λ i. known_port self.key self.ageing_time c.args.now (c.row-vlan.ensures i) a.destination (left i)) in
    let answers : answered s from c.refusal-refused.result a c.port_of-known.result ≡ answer v table =
    (λ i. answered s from (refused i) a (known i))
    ∙ sym (ap (λ (x : Result (Front × Arrived) Discarded). answer_arrival v x (after v table)) arrived) in
    (subst (λ (x : Result Answer Discarded). Returns x c.answer.result) answers c.answer.ensures, left)
