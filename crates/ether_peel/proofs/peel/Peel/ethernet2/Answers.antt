use Rattle.std.proofs.Common.{◌≡◌, ◌-◌, length, refl, ap, ◌∙◌, arith}
use Rattle.std.specs.Prelude.{slice_range}
use Rattle.etherparse.specs.Ethernet2.{ethernet2_of, payload_of}
use Rattle.etherparse.specs.Header as headers
use Rattle.etherparse.specs.Kind as kinds
use Rattle.ether_peel.specs.Walker.State.{State}
use Rattle.ether_peel.specs.Grammar.Expectation.{EtherType}
use Rattle.ether_peel.specs.declared.peel_unit.PeelUnit.TheVariants as units
use Rattle.ether_peel.proofs.Walker.Steps.{gives_plain, refused_len}
use Rattle.ether_peel.proofs.peel.Peel.ethernet2.Goals as goal

pub fault-requires : goal.fault-requires
fault-requires c =
    refused_len c.args.self.now kinds.Ethernet2
    c.self.inside.rest.now c.offset.result c.in-Err.error
    c.add_offset.result c.requires.going c.requires.announced (ap (λ (s : State). s.rest) c.self.view_is)
    c.offset.ensures.value c.in-Err.ensures.refused c.add_offset.ensures

pub returns-in-Ok-clause-gives : goal.returns-in-Ok-clause-gives
returns-in-Ok-clause-gives c =
    let bytes = c.self.inside.rest.now in
    let all : length bytes - 0 ≡ length bytes = omega arith in
    gives_plain c.self.inside c.args.self.now c.payload_slice-self-inside.result.now
    (units.Ethernet2 c.in-Ok.slice) (EtherType c.ether_type-ether_type.result.0) c.self.inside.limit c.self.invariant.0
    c.self.view_is
    c.requires.going (record {
      header =
          headers.Ethernet2 (ethernet2_of c.self.inside.rest.now);
      no_len = refl;
      no_trailer = refl;
      announced = c.requires.announced;
      accepted = c.in-Ok.ensures.accepted;
      means = c.in-Ok.ensures.value;
      shows = ap units.Ethernet2 c.in-Ok.ensures.frame;
      rest_is =
          c.payload_slice-self-inside.ensures ∙ ap payload_of c.in-Ok.ensures.frame ∙ ap (slice_range bytes 14) all;
      next_is =
          ap EtherType
          (c.ether_type-ether_type.ensures ∙ ap (λ f. (ethernet2_of f.bytes).ether_type) c.in-Ok.ensures.frame);
      limit_is = ap (λ (s : State). s.expected.limit) c.self.view_is;
    })
