use Rattle.std.proofs.Common.{◌≡◌, Some, true, false, drop, sym, ap, ◌∙◌}
use Rattle.ether_packet.specs.Front.{first_ethernet2, outer_tag}
use Rattle.ether_switch.specs.Arrivals.{front_of}
use Rattle.ether_switch.specs.Leaving.{has_tag}
use Rattle.ether_switch.proofs.Fronts.{front_is_ok, front_is_none, has_outer_tag, untyped, set_leaves, put_leaves}
use Rattle.ether_switch.proofs.received.Received.make_tagged.Goals as goal

pub returns-in-Ok-clause-sent : goal.returns-in-Ok-clause-sent
returns-in-Ok-clause-sent c hs e walk =
    let r = c.args.self.now in
    let is : Some true ≡ has_tag (front_of r.kind hs) =
    ap Some (sym c.in-Some-true.field-0-test) ∙ c.in-Some-true.ensures.value hs e walk in
    set_leaves r (front_of r.kind hs) (drop 4 c.args.buffer.now) hs e (drop 4 c.rename.new.buffer) is
    (c.in-Ok.ensures.ok hs e walk)

pub returns-in-Ok-clause-goes : goal.returns-in-Ok-clause-goes
returns-in-Ok-clause-goes c hs e walk =
    front_is_ok true (front_of c.args.self.now.kind hs) (ap Some (sym c.in-Some-true.field-0-test)
    ∙ c.in-Some-true.ensures.value hs e walk)

pub returns-in-Err-clause-goes : goal.returns-in-Err-clause-goes
returns-in-Err-clause-goes c hs e walk =
    absurd (has_outer_tag c.args.self.now.kind (first_ethernet2 hs) (outer_tag hs)
    (ap Some (sym c.in-Some-true.field-0-test) ∙ c.in-Some-true.ensures.value hs e walk)
    (c.in-Err.ensures.untagged hs e walk))

pub returns-in-Ok-tag-clause-sent : goal.returns-in-Ok-tag-clause-sent
returns-in-Ok-tag-clause-sent c hs e walk =
    let r = c.args.self.now in
    let is : Some false ≡ has_tag (front_of r.kind hs) =
    ap Some (sym c.in-Some-false.field-0-test) ∙ c.in-Some-false.ensures.value hs e walk in
    put_leaves r (front_of r.kind hs) c.args.buffer.now hs e c.tag.new.buffer is (c.in-Ok-tag.ensures.ok hs e walk)

pub returns-in-Ok-tag-clause-goes : goal.returns-in-Ok-tag-clause-goes
returns-in-Ok-tag-clause-goes c hs e walk =
    front_is_ok false (front_of c.args.self.now.kind hs) (ap Some (sym c.in-Some-false.field-0-test)
    ∙ c.in-Some-false.ensures.value hs e walk)

pub returns-in-Err-tag-clause-goes : goal.returns-in-Err-tag-clause-goes
returns-in-Err-tag-clause-goes c hs e walk =
    untyped c.args.self.now.kind hs (c.in-Err-tag.ensures.untyped hs e walk)

pub returns-in-None-clause-goes : goal.returns-in-None-clause-goes
returns-in-None-clause-goes c hs e walk =
    front_is_none (front_of c.args.self.now.kind hs) (c.in-None.ensures.value hs e walk)
