use Rattle.std.proofs.Common.{length, true, refl, ap, ◌∙◌}
use Rattle.std.specs.Prelude.{slice_range}
use Rattle.etherparse.specs.Vlan.{vlan_of}
use Rattle.etherparse.specs.Header as headers
use Rattle.etherparse.specs.Kind as kinds
use Rattle.ether_peel.specs.Walker.State.{State}
use Rattle.ether_peel.specs.Grammar.Expectation.{EtherType, lowered}
use Rattle.ether_peel.specs.declared.peel_unit.PeelUnit.TheVariants as units
use Rattle.ether_peel.proofs.Walker.Steps.{gives_plain, refused_len}
use Rattle.ether_peel.proofs.peel.Peel.vlan.Goals as goal

pub fault-requires : goal.fault-requires
fault-requires c =
    refused_len c.args.self.now kinds.Vlan c.self.inside.rest.now
    c.offset.result c.in-Err.error c.add_offset.result c.requires.going c.requires.announced
    (ap (λ (s : State). s.rest) c.self.view_is) c.offset.ensures.value
    c.in-Err.ensures.refused c.add_offset.ensures

pub returns-in-Ok-clause-gives : goal.returns-in-Ok-clause-gives
returns-in-Ok-clause-gives c =
    gives_plain c.self.inside c.args.self.now c.payload_slice-self-inside.result.now
    (units.Vlan c.in-Ok.slice) (EtherType c.ether_type-ether_type.result.0) c.lowered-self-inside.result
    c.self.invariant.0 c.self.view_is c.requires.going (record {
      header = headers.Vlan (vlan_of c.self.inside.rest.now);
      no_len = refl;
      no_trailer = refl;
      announced = c.requires.announced;
      accepted = c.in-Ok.ensures.accepted;
      means = c.in-Ok.ensures.value;
      shows = ap units.Vlan c.in-Ok.ensures.bytes;
      rest_is = c.payload_slice-self-inside.ensures ∙ ap (λ l. slice_range l 4 (length l)) c.in-Ok.ensures.bytes;
      next_is = ap EtherType (c.ether_type-ether_type.ensures ∙ ap (λ l. (vlan_of l).ether_type) c.in-Ok.ensures.bytes);
      limit_is = c.lowered-self-inside.ensures ∙ ap (λ (s : State). lowered true s.expected.limit) c.self.view_is;
    })
