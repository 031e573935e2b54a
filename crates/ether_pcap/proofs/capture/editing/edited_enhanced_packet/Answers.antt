use Rattle.std.proofs.Common.{◌≡◌, ◌-◌, ◌+◌, ℕ, length, take, drop, ap, ◌∙◌, arith, rules}
use Rattle.std.specs.Prelude.{slice_range}
use Rattle.ether_pcap.specs.Options.{padded}
use Rattle.ether_pcap.specs.Editing.{EditedValue}
use Rattle.ether_pcap.specs.Views.{order_of}
use Rattle.ether_pcap.proofs.EditedBlocks.{captured_at, length-parts, padded_within, too_long_block, written_block}
use Rattle.ether_pcap.proofs.capture.editing.edited_enhanced_packet.Goals as goal

pub returns-then-captured_len-gt-MAX_CAPTURED_LEN-clause-unit :
    goal.returns-then-captured_len-gt-MAX_CAPTURED_LEN-clause-unit
returns-then-captured_len-gt-MAX_CAPTURED_LEN-clause-unit c number_len v sound is =
    let order = order_of c.args.order in
    let e : EditedValue = record { original_len = c.args.original_len; packet = c.args.packet.now } in
    let at = c.u32_at-captured_len.ensures ∙ captured_at order number_len c.args.block.now v e sound is in
    absurd (omega (arith, at, c.if-captured_len-gt-MAX_CAPTURED_LEN.true, is.room))

pub returns-then-end-options_at-clause-unit : goal.returns-then-end-options_at-clause-unit
returns-then-end-options_at-clause-unit c number_len v sound is =
    let order = order_of c.args.order in
    let u = c.args.block.now in
    let e : EditedValue = record { original_len = c.args.original_len; packet = c.args.packet.now } in
    let at : c.padded_len-options_at.result ≡ padded (length v.packet) =
    c.padded_len-options_at.ensures
    ∙ ap padded (c.u32_at-captured_len.ensures ∙ captured_at order number_len u v e sound is) in
    absurd (omega (arith, at, c.if-end-options_at.true, padded_within order number_len u v e sound is))

pub returns-then-total_len-clause-unit : goal.returns-then-total_len-clause-unit
returns-then-total_len-clause-unit c number_len v sound is =
    let order = order_of c.args.order in
    let u = c.args.block.now in
    let e : EditedValue = record { original_len = c.args.original_len; packet = c.args.packet.now } in
    let at : c.padded_len-options_at.result ≡ padded (length v.packet) =
    c.padded_len-options_at.ensures
    ∙ ap padded (c.u32_at-captured_len.ensures ∙ captured_at order number_len u v e sound is) in
    too_long_block order number_len u v e sound is
    (omega (arith, at, c.padded_len-padded.ensures, c.if-total_len.true))

pub returns-clause-unit : goal.returns-clause-unit
returns-clause-unit c number_len v sound is =
    let order = order_of c.args.order in
    let u = c.args.block.now in
    let e : EditedValue = record { original_len = c.args.original_len; packet = c.args.packet.now } in
    let at : c.padded_len-options_at.result ≡ padded (length v.packet) =
    c.padded_len-options_at.ensures
    ∙ ap padded (c.u32_at-captured_len.ensures ∙ captured_at order number_len u v e sound is) in
    let to = c.padded_len-padded.ensures in
    written_block order number_len u v e sound is c.block_header.result _ c.len_word.result _ _ c.block_header.ensures
    (ap (λ (k : ℕ). k - length e.packet) to)
    (ap (λ (k : ℕ). slice_range u (28 + k) (length u - 4)) at)
    (omega (arith, at, to))
    (omega (arith, c.if-total_len.false))
    c.len_word.ensures

pub returns-clause-len : goal.returns-clause-len
returns-clause-len c =
    let at = 28 + c.padded_len-options_at.result in
    let front : length c.block_header.result ≡ 28 = search rules in
    let back : length c.len_word.result ≡ 4 = search rules in
    let parts =
    length-parts c.block_header.result c.args.packet.now
    (take (length c.args.block.now - 4 - at) (drop at c.args.block.now)) c.len_word.result
    (c.padded_len-padded.result - length c.args.packet.now) front back in
    omega (arith, parts, c.if-total_len.false, c.padded_len-padded.ensures)
