use Rattle.std.proofs.Common.{◌≡◌, ◌+◌, ◌-◌, length, false, refl, sym, ap, subst, ◌∙◌, arith}
use Rattle.std.specs.Prelude.{Some, Ok, ◌||◌}
use Rattle.etherparse.specs.Types.MacsecSlice.{MacsecSlice}
use Rattle.etherparse.specs.Macsec.{sec_tag_of, tag_bytes}
use Rattle.etherparse.specs.Header as headers
use Rattle.ether_peel.specs.Walker.State.{State, shown_of}
use Rattle.ether_peel.specs.Grammar.Expectation.{announced, announced_next}
use Rattle.ether_peel.specs.Walker.Start.{next_shown}
use Rattle.ether_peel.proofs.Grammar.Windows.{payload_closed, payload_bound}
use Rattle.ether_peel.specs.Walker.Next.{Gives, ShowsMacsec}
use Rattle.ether_peel.specs.declared.peel_unit.PeelUnit.TheVariants as units
use Rattle.ether_peel.proofs.Walker.Steps.{shown, gives_unit, nearer}
use Rattle.ether_peel.proofs.Walker.Units.{tag_read, marked}
use Rattle.ether_peel.proofs.peel.Peel.macsec.Goals as goal

pub overflow_add-self-in-Ok : goal.overflow_add-self-in-Ok
overflow_add-self-in-Ok c =
    let read =
    tag_read c.self.inside.rest.now c.in-Ok.slice c.header_len.result c.in-Ok.ensures.header c.in-Ok.ensures.payload
    c.header_len.ensures.tag c.in-Ok.ensures.value.whole in
    let len = ap length c.payload_bytes-payload.ensures in
    let rest = ap (λ (s : State). length s.rest) c.self.view_is in
    let fits = c.offset.ensures.fits in
    omega (arith, read.shorter, len, rest, fits)

pub invariant_of-self : goal.invariant_of-self
invariant_of-self c =
    let bytes = c.self.inside.rest.now in
    let read =
    tag_read bytes c.in-Ok.slice c.header_len.result c.in-Ok.ensures.header c.in-Ok.ensures.payload
    c.header_len.ensures.tag c.in-Ok.ensures.value.whole in
    let len = ap length c.payload_bytes-payload.ensures in
    let shorter = read.shorter in
    let fits = c.self.invariant.0 in
    let following = c.announced_after-kind.ensures in
    let announces = ap announced_next following.expected ∙ following.announced in
    (omega arith, announces, following.shown ∙ ap next_shown (sym following.expected))

pub returns-in-Ok-clause-gives : goal.returns-in-Ok-clause-gives
returns-in-Ok-clause-gives c =
    let a = c.self.inside in
    let bytes = a.rest.now in
    let m : MacsecSlice = c.in-Ok.slice in
    let n = c.header_len.result in
    let tag = sec_tag_of (tag_bytes m.header) in
    let u = units.Macsec m in
    let payload = c.payload_bytes-payload.ensures in
    let t : State = record {
      rest = c.payload_bytes-payload.result.now;
      offset = c.offset.result + n + length c.payload_bytes-payload.result.now
          - length c.payload_bytes-payload.result.now;
      closed = a.is_closed || c.is_some.result;
      bound = c.bound_after-self-inside.result;
      expected = record { next = shown_of c.announced_after-kind.result.1; limit = c.lowered-self-inside.result };
      over = a.is_over;
    } in
    let going : a.is_over ≡ false = ap (λ (s : State). s.over) c.self.view_is ∙ c.requires.going in
    let read =
    tag_read bytes m n c.in-Ok.ensures.header c.in-Ok.ensures.payload c.header_len.ensures.tag
    c.in-Ok.ensures.value.whole in
    let at = c.offset.ensures.value ∙ sym (ap (λ (s : State). s.offset) c.self.view_is) in
    subst (λ (s : State). Gives s (Some (Ok u)) t) c.self.view_is (gives_unit (shown a) t u (record {
      going = going;
      header = headers.Macsec tag;
      announced = ap (λ (s : State). announced s.expected) c.self.view_is ∙ c.requires.announced;
      accepted = c.in-Ok.ensures.accepted;
      means = c.in-Ok.ensures.value;
      shows = (m, refl, subst (λ l. ShowsMacsec bytes l tag m) (sym payload) read.shows);
      rest = payload ∙ read.rest;
      offset = omega (arith, at, read.len);
      closed =
          ap (λ b. a.is_closed || b) c.is_some.ensures ∙ marked a.is_closed c.expected_payload_len-known.result
          ∙ ap (payload_closed a.is_closed) (c.expected_payload_len-known.ensures ∙ read.known);
      bound =
          c.bound_after-self-inside.ensures
          ∙ ap (payload_bound a.bound) (c.expected_payload_len-known.ensures ∙ read.known);
      next = c.announced_after-kind.ensures.expected ∙ read.expected;
      limit = c.lowered-self-inside.ensures;
      over = going;
    }))

pub returns-in-Ok-clause-nearer : goal.returns-in-Ok-clause-nearer
returns-in-Ok-clause-nearer c =
    let a = c.self.inside in
    let n = c.header_len.result in
    let read =
    tag_read a.rest.now c.in-Ok.slice n c.in-Ok.ensures.header c.in-Ok.ensures.payload c.header_len.ensures.tag
    c.in-Ok.ensures.value.whole in
    let len = ap length c.payload_bytes-payload.ensures in
    let shorter = read.shorter in
    let least = read.len in
    let going : a.is_over ≡ false = ap (λ (s : State). s.over) c.self.view_is ∙ c.requires.going in
    nearer (shown a) c.args.self.now
    (shown (record a {
      end = c.offset.result + n + length c.payload_bytes-payload.result.now;
      rest = c.payload_bytes-payload.result;
    }))
    c.self.view_is going (omega arith)
