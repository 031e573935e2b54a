use Rattle.std.proofs.Common.{◌≡◌, ◌+◌, ◌≤◌, ℕ, true, false, sym, ap, ◌∙◌, arith}
use Rattle.std.specs.Prelude.{Option, unwrap_or}
use Rattle.etherparse.specs.Macsec.{sec_tag_front_in, sec_tag_len, known_payload_len, tag_bytes}
use Rattle.ether_peel.proofs.Walker.TagFront.{never_refused, tag_most, plan_typed, plan_sealed}
use Rattle.ether_peel.proofs.completing.planned_tag.Goals as goal

pub returns-in_default-from_slice : goal.returns-in_default-from_slice
returns-in_default-from_slice c =
    absurd
    (never_refused c.args.begun.now c.in_default-from_slice.field-0 c.requires c.in-len6-up.len_at_least
    c.in_default-from_slice.ensures.refused)

pub overflow_add-result : goal.overflow_add-result
overflow_add-result c =
    let t = sec_tag_front_in (tag_bytes c.in-Ok.tag) in
    let most : sec_tag_len t + unwrap_or (known_payload_len t) 0 ≤ 79 = tag_most t (omega arith) (omega arith) in
    let payload : c.unwrap_or.result ≡ unwrap_or (known_payload_len t) 0 =
    c.unwrap_or.ensures ∙ ap (λ (o : Option ℕ). unwrap_or o 0) c.expected_payload_len.ensures in
    let len : c.header_len-header_len.result ≡ sec_tag_len t = c.header_len-header_len.ensures.tag in
    omega arith

pub returns-then-is_unmodified : goal.returns-then-is_unmodified
returns-then-is_unmodified c =
    let six = c.in-len6-up.len_at_least in
    let clear = c.is_unmodified.ensures.0 c.if-is_unmodified.true in
    let payload = c.unwrap_or.ensures ∙ ap (λ (o : Option ℕ). unwrap_or o 0) c.expected_payload_len.ensures in (
      six,
      plan_typed c.args.begun.now (tag_bytes c.in-Ok.tag) c.header_len-header_len.result c.unwrap_or.result
          (λ i. omega (arith, c.type_inv.begun i)) six c.in-Ok.ensures.bytes c.header_len-header_len.ensures.tag
          payload clear.0 clear.1,
    )

pub returns-else-is_unmodified : goal.returns-else-is_unmodified
returns-else-is_unmodified c =
    let six = c.in-len6-up.len_at_least in
    let payload = c.unwrap_or.ensures ∙ ap (λ (o : Option ℕ). unwrap_or o 0) c.expected_payload_len.ensures in (
      six,
      plan_sealed c.args.begun.now (tag_bytes c.in-Ok.tag) c.header_len-header_len.result c.unwrap_or.result
          (λ i. omega (arith, c.type_inv.begun i)) six c.in-Ok.ensures.bytes c.header_len-header_len.ensures.tag payload
          (λ clear. let both : true ≡ false =
          sym (c.is_unmodified.ensures.1 clear) ∙ c.if-is_unmodified.false in absurd cc),
    )
