use Rattle.std.proofs.Common.{◌≡◌, ℕ, ◌/◌, length, take, refl, arith}
use Rattle.std.proofs.lemmas.List.{length-take}
use Rattle.ether_text.proofs.tool.ParseFrameLemmas.{bad_in_place, frame_at_front, frame_in_place, frame_or_bad}
use Rattle.ether_text.proofs.tool.parse_frame.frame_of.Goals as goal

pub returns-in-Ok-clause-frame : goal.returns-in-Ok-clause-frame
returns-in-Ok-clause-frame c =
    let room : length (take (length c.args.line.now / 2) c.args.out.now) ≡ length c.args.line.now / 2 =
    omega (arith, length-take {A = ℕ}) in
    frame_at_front _ _ _
    (frame_in_place _ _ _ _ _ c.if-line-gt-MAX_LINE_DIGITS.false room c.in-Ok.is c.decode_to_slice.ensures.value)

pub returns-in-Ok-clause-bad : goal.returns-in-Ok-clause-bad
returns-in-Ok-clause-bad c =
    let room : length (take (length c.args.line.now / 2) c.args.out.now) ≡ length c.args.line.now / 2 =
    omega (arith, length-take {A = ℕ}) in
    let is =
    frame_in_place _ _ _ _ _ c.if-line-gt-MAX_LINE_DIGITS.false room c.in-Ok.is c.decode_to_slice.ensures.value in
    (λ h. absurd (cc), λ bad. absurd (frame_or_bad _ _ is bad))

pub returns-in-Err-clause-bad : goal.returns-in-Err-clause-bad
returns-in-Err-clause-bad c =
    let room : length (take (length c.args.line.now / 2) c.args.out.now) ≡ length c.args.line.now / 2 =
    omega (arith, length-take {A = ℕ}) in
    (λ _. bad_in_place _ _ _ _ _ room c.in-Err.is c.decode_to_slice.ensures.value, λ _. refl)
