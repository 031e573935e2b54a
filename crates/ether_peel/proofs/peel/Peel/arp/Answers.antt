use Rattle.std.proofs.Common.{◌≡◌, length, refl, sym, ap, ◌∙◌}
use Rattle.std.specs.Prelude.{slice_range}
use Rattle.etherparse.specs.Arp.{arp_of, arp_len, arp_front_in}
use Rattle.etherparse.specs.Header.{header_len}
use Rattle.etherparse.specs.Header as headers
use Rattle.etherparse.specs.Kind as kinds
use Rattle.ether_peel.specs.Walker.State.{State}
use Rattle.ether_peel.specs.Grammar.Expectation.{AfterArp}
use Rattle.ether_peel.specs.declared.peel_unit.PeelUnit.TheVariants as units
use Rattle.ether_peel.proofs.Walker.Steps.{gives_plain, refused_len}
use Rattle.ether_peel.proofs.Walker.Units.{packet_taken}
use Rattle.ether_peel.proofs.peel.Peel.arp.Goals as goal

pub fault-requires : goal.fault-requires
fault-requires c =
    refused_len c.args.self.now kinds.Arp c.self.inside.rest.now c.offset.result c.in-Err.error
    c.add_offset.result c.requires.going c.requires.announced (ap (λ (s : State). s.rest) c.self.view_is)
    c.offset.ensures.value c.in-Err.ensures.refused c.add_offset.ensures

pub returns-in-Ok-clause-gives : goal.returns-in-Ok-clause-gives
returns-in-Ok-clause-gives c =
    let bytes = c.self.inside.rest.now in
    let packet = c.in-Ok.slice in
    let n = length c.slice-len.result.now in
    let h = headers.Arp (arp_of packet) in
    let bytes_are = c.slice-len.ensures.bytes in
    let same_len : n ≡ length packet = ap length bytes_are in
    let taken = packet_taken bytes packet c.in-Ok.ensures.bytes (sym same_len ∙ c.slice-len.ensures.len) in
    let len : n ≡ header_len h = same_len ∙ sym taken.len in
    let size : arp_len (arp_front_in bytes) ≡ header_len h = sym taken.front ∙ sym taken.len in
    gives_plain c.self.inside c.args.self.now (slice_range bytes n (length bytes)) (units.Arp packet) AfterArp
    c.self.inside.limit c.self.invariant.0 c.self.view_is c.requires.going (record {
      header = h;
      no_len = refl;
      no_trailer = refl;
      announced = c.requires.announced;
      accepted = c.in-Ok.ensures.accepted;
      means = c.in-Ok.ensures.value;
      shows = ap units.Arp (c.in-Ok.ensures.bytes ∙ ap (slice_range bytes 0) size);
      rest_is = ap (λ k. slice_range bytes k (length bytes)) len;
      next_is = refl;
      limit_is = ap (λ (s : State). s.expected.limit) c.self.view_is;
    })
