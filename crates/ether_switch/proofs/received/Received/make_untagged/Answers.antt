use Rattle.std.proofs.Common.{◌≡◌, Some, true, false, drop, sym, subst, ◌∙◌, ap}
use Rattle.std.proofs.lemmas.List.{drop-drop}
use Rattle.ether_packet.specs.Front.{first_ethernet2, outer_tag}
use Rattle.etherparse.specs.Vlan.{vlan_view}
use Rattle.ether_switch.specs.Arrivals.{front_of}
use Rattle.ether_switch.specs.Leaving.{has_tag, LeavesUntagged}
use Rattle.ether_switch.proofs.Fronts.{front_is_ok, front_is_none, has_outer_tag, take_leaves, leaves_as_it_came}
use Rattle.ether_switch.proofs.received.Received.make_untagged.Goals as goal

pub returns-in-Ok-clause-sent : goal.returns-in-Ok-clause-sent
returns-in-Ok-clause-sent c hs e walk =
    let front = front_of c.args.self.now.kind hs in
    let frame = drop 4 c.args.buffer.now in
    let is : Some true ≡ has_tag front =
    ap Some (sym c.in-Some-true.field-0-test) ∙ c.in-Some-true.ensures.value hs e walk in
    subst (LeavesUntagged front frame hs e) (drop-drop 4 4 c.untag.new.buffer)
    (take_leaves front frame hs e (vlan_view c.in-Ok.field-0) (drop 4 c.untag.new.buffer) is
    (c.in-Ok.ensures.ok hs e walk))

pub returns-in-Ok-clause-goes : goal.returns-in-Ok-clause-goes
returns-in-Ok-clause-goes c hs e walk =
    front_is_ok true (front_of c.args.self.now.kind hs) (ap Some (sym c.in-Some-true.field-0-test)
    ∙ c.in-Some-true.ensures.value hs e walk)

pub returns-in-Err-clause-goes : goal.returns-in-Err-clause-goes
returns-in-Err-clause-goes c hs e walk =
    absurd (has_outer_tag c.args.self.now.kind (first_ethernet2 hs) (outer_tag hs)
    (ap Some (sym c.in-Some-true.field-0-test) ∙ c.in-Some-true.ensures.value hs e walk)
    (c.in-Err.ensures.untagged hs e walk))

pub returns-in-Some-false-clause-sent : goal.returns-in-Some-false-clause-sent
returns-in-Some-false-clause-sent c hs e walk =
    leaves_as_it_came (front_of c.args.self.now.kind hs) (drop 4 c.args.buffer.now) hs e
    (ap Some (sym c.in-Some-false.field-0-test) ∙ c.in-Some-false.ensures.value hs e walk)

pub returns-in-Some-false-clause-goes : goal.returns-in-Some-false-clause-goes
returns-in-Some-false-clause-goes c hs e walk =
    front_is_ok false (front_of c.args.self.now.kind hs) (ap Some (sym c.in-Some-false.field-0-test)
    ∙ c.in-Some-false.ensures.value hs e walk)

pub returns-in-None-clause-goes : goal.returns-in-None-clause-goes
returns-in-None-clause-goes c hs e walk =
    front_is_none (front_of c.args.self.now.kind hs) (c.in-None.ensures.value hs e walk)
