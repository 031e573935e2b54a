use Rattle.std.proofs.Common.{◌≡◌, ◌+◌, ◌-◌, length, false, refl, sym, ap, subst, ◌∙◌, arith}
use Rattle.std.specs.Prelude.{Some, Ok}
use Rattle.etherparse.specs.Ethernet2.{ethernet2_of, payload_of}
use Rattle.etherparse.specs.Header as headers
use Rattle.etherparse.specs.Kind as kinds
use Rattle.ether_peel.specs.Walker.State.{State}
use Rattle.ether_peel.specs.Grammar.Expectation.{EtherType, announced}
use Rattle.ether_peel.specs.Walker.Next.{Gives}
use Rattle.ether_peel.specs.declared.peel_unit.PeelUnit.TheVariants as units
use Rattle.ether_peel.proofs.Walker.Steps.{shown, gives_unit, refused_len}
use Rattle.ether_peel.proofs.peel.Peel.ethernet2_fcs.Goals as goal

pub fault-requires : goal.fault-requires
fault-requires c =
    refused_len c.args.self.now kinds.Ethernet2Fcs c.self.inside.rest.now c.offset-in-Err.result c.in-Err.error
    c.add_offset.result c.requires.going c.requires.announced (ap (λ (s : State). s.rest) c.self.view_is)
    c.offset-in-Err.ensures.value c.in-Err.ensures.refused c.add_offset.ensures

pub returns-in-Ok-clause-gives : goal.returns-in-Ok-clause-gives
returns-in-Ok-clause-gives c =
    let a = c.self.inside in
    let u = units.Ethernet2 c.in-Ok.slice in
    let is = c.in-Ok.ensures.frame in
    let t : State = record {
      rest = c.payload_slice-payload.result.now;
      offset = c.offset.result + c.header_len.result + length c.payload_slice-payload.result.now
          - length c.payload_slice-payload.result.now;
      closed = a.is_closed;
      bound = a.bound;
      expected = record { next = EtherType c.ether_type-ether_type.result.0; limit = a.limit };
      over = a.is_over;
    } in
    let at = c.offset.ensures.value ∙ sym (ap (λ (s : State). s.offset) c.self.view_is) in
    let going : a.is_over ≡ false = ap (λ (s : State). s.over) c.self.view_is ∙ c.requires.going in
    subst (λ (s : State). Gives s (Some (Ok u)) t) c.self.view_is (gives_unit (shown a) t u (record {
      going = going;
      header = headers.Ethernet2Fcs (ethernet2_of a.rest.now);
      announced = ap (λ (s : State). announced s.expected) c.self.view_is ∙ c.requires.announced;
      accepted = c.in-Ok.ensures.accepted;
      means = c.in-Ok.ensures.value;
      shows = ap units.Ethernet2 is;
      rest = c.payload_slice-payload.ensures ∙ ap payload_of is;
      offset = omega (arith, at, c.header_len.ensures);
      closed = refl;
      bound = refl;
      next = ap EtherType (c.ether_type-ether_type.ensures ∙ ap (λ f. (ethernet2_of f.bytes).ether_type) is);
      limit = refl;
      over = going;
    }))
