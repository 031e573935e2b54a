use Rattle.std.proofs.Common.{◌≡◌, ◌/◌, List, ℕ, length, ap, subst, arith}
use Rattle.ether_text.specs.Tool.Frame.{IsFrame, IsBadLine}
use Rattle.ether_text.proofs.tool.ParseFrameLemmas.{frame_in_place, bad_in_place}
use Rattle.ether_text.proofs.tool.ModeLemmas.{type_named, type_not_named}
use Rattle.ether_text.proofs.tool.mode.number_of.Goals as goal

pub returns-in-Ok-clause-some : goal.returns-in-Ok-clause-some
returns-in-Ok-clause-some c =
    let four = c.if-digits-ne4.false in
    let same = c.as_bytes.ensures.value in
    let half : 2 ≡ length c.as_bytes.result.now / 2 = omega (arith, ap length same, four) in
    let is =
    frame_in_place c.as_bytes.result.now c.decode_to_slice.new.out 2 c.decode_to_slice.result c.in-Ok.field-0
    (omega (arith, ap length same, four)) half c.in-Ok.is c.decode_to_slice.ensures.value in
    type_named c.args.digits.now c.decode_to_slice.new.out c.from_be_bytes.result four
    (subst (λ (l : List ℕ). IsFrame l c.decode_to_slice.new.out) same is) c.from_be_bytes.ensures

pub returns-in-Err-clause-none : goal.returns-in-Err-clause-none
returns-in-Err-clause-none c =
    let four = c.if-digits-ne4.false in
    let same = c.as_bytes.ensures.value in
    let half : 2 ≡ length c.as_bytes.result.now / 2 = omega (arith, ap length same, four) in
    let bad =
    bad_in_place c.as_bytes.result.now c.decode_to_slice.new.out 2 c.decode_to_slice.result c.in-Err.field-0 half
    c.in-Err.is c.decode_to_slice.ensures.value in
    type_not_named c.args.digits.now four (subst IsBadLine same bad)
