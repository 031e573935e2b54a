use Rattle.std.proofs.Common.{length, refl, ap, subst, ◌∙◌}
use Rattle.std.specs.Prelude.{slice_range}
use Rattle.etherparse.specs.LinuxSll.{linux_sll_of, IsRefusedSll}
use Rattle.etherparse.specs.Header as headers
use Rattle.etherparse.specs.Kind as kinds
use Rattle.ether_peel.specs.Walker.State.{State, shown_of}
use Rattle.ether_peel.specs.declared.peel_unit.PeelUnit.TheVariants as units
use Rattle.ether_peel.proofs.Walker.Steps.{after_capture_is, gives_plain, refused_len, refused_linux_sll}
use Rattle.ether_peel.proofs.peel.Peel.linux_sll.Goals as goal

pub fault-requires : goal.fault-requires
fault-requires c =
    let refused =
    subst (IsRefusedSll c.self.inside.rest.now)
    c.in-Err-Len.field-0-is c.in-Err-Len.ensures.refused in
    refused_len c.args.self.now kinds.LinuxSll
    c.self.inside.rest.now c.offset.result
    c.in-Err-Len.error c.add_offset.result c.requires.going c.requires.announced
    (ap (λ (s : State). s.rest) c.self.view_is) c.offset.ensures.value refused
    c.add_offset.ensures

pub fault-requires-in-Err-Content : goal.fault-requires-in-Err-Content
fault-requires-in-Err-Content c =
    let refused =
    subst (IsRefusedSll c.self.inside.rest.now)
    c.in-Err-Content.field-0-is c.in-Err-Content.ensures.refused in
    refused_linux_sll c.args.self.now c.self.inside.rest.now
    c.in-Err-Content.error c.requires.going c.requires.announced (ap (λ (s : State). s.rest) c.self.view_is) refused

pub returns-in-Ok-clause-gives : goal.returns-in-Ok-clause-gives
returns-in-Ok-clause-gives c =
    gives_plain c.self.inside c.args.self.now c.payload_slice-self-inside.result.now
    (units.LinuxSll c.in-Ok.slice) (shown_of c.announced_in-kind.result.1) c.self.inside.limit c.self.invariant.0
    c.self.view_is
    c.requires.going (record {
      header = headers.LinuxSll (linux_sll_of c.in-Ok.slice);
      no_len = refl;
      no_trailer = refl;
      announced = c.requires.announced;
      accepted = c.in-Ok.ensures.accepted;
      means = c.in-Ok.ensures.value;
      shows = ap units.LinuxSll c.in-Ok.ensures.bytes;
      rest_is = c.payload_slice-self-inside.ensures ∙ ap (λ l. slice_range l 16 (length l)) c.in-Ok.ensures.bytes;
      next_is =
          c.announced_in-kind.ensures.expected
          ∙ after_capture_is (linux_sll_of c.in-Ok.slice).hardware_type (linux_sll_of c.in-Ok.slice).protocol;
      limit_is = ap (λ (s : State). s.expected.limit) c.self.view_is;
    })
