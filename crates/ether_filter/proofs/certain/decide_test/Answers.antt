use Rattle.std.proofs.Common.{◌≡◌, false, sym, ◌∙◌}
use Rattle.ether_filter.specs.Deciding.{is_of_field, is_of_lengths}
use Rattle.ether_filter.specs.Primitives.{frame_of}
use Rattle.ether_filter.proofs.Decided.{no_lengths_left, plain_bytes, plain_says}
use Rattle.ether_filter.proofs.Truth.{not_of_field}
use Rattle.ether_filter.proofs.certain.decide_test.Goals as goal

pub returns : goal.returns
returns c hs e walk ok are at =
    let packet = c.args.packet.now in
    let p = c.args.primitive in
    let free : is_of_field p ≡ false = not_of_field p c.in_default.not-Field in
    let none = sym c.matches_capture.ensures ∙ c.in_default-matches_capture.is in
    let left : is_of_lengths p ≡ false =
    no_lengths_left c.of_primitive.result p (frame_of packet) c.of_primitive.ensures free none in
    plain_says packet c.args.certain.packet hs e p c.decide_seen.result ok free left are.plain
    (c.decide_seen.ensures free (plain_bytes packet c.args.certain.packet ok are.plain) are.walk hs e)
