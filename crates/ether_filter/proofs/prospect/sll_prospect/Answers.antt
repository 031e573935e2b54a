use Rattle.std.proofs.Common.{◌+◌, ◌*◌, sym, ◌∙◌, arith}
use Rattle.ether_filter.proofs.SllProspects.{sll_prospect, sll_short, sll_packet, sll_hardware}
use Rattle.ether_filter.proofs.prospect.sll_prospect.Goals as goal

pub returns-then-room-lt16 : goal.returns-then-room-lt16
returns-then-room-lt16 c =
    sll_short c.args.known.now c.args.room (λ i. omega (arith, c.type_inv.known i)) c.requires.inside
    c.if-room-lt16.true

pub returns-then-packet_type-gt7 : goal.returns-then-packet_type-gt7
returns-then-packet_type-gt7 c =
    sll_packet c.args.known.now (256 * c.byte_or.result + c.byte_or-2.result) c.args.room
    (λ i. omega (arith, c.type_inv.known i)) c.requires.inside c.if-room-lt16.false
    (omega (arith, c.byte_or.ensures.value, c.byte_or-2.ensures.value)) c.if-packet_type-gt7.true

pub returns-then-not-is_supported : goal.returns-then-not-is_supported
returns-then-not-is_supported c =
    sll_hardware c.args.known.now (256 * c.byte_or.result + c.byte_or-2.result) c.byte_or-high.result
    c.supported_low.result (256 * c.byte_or-high.result + c.byte_or-3.result) c.args.room
    (record {
      ok = λ i. omega (arith, c.type_inv.known i);
      few = c.requires.few;
      packet_is = omega (arith, c.byte_or.ensures.value, c.byte_or-2.ensures.value);
      high_is = c.byte_or-high.ensures.value;
      low_is = record { three = c.supported_low.ensures.three; other = c.supported_low.ensures.other };
      hardware_is = omega (arith, c.byte_or-3.ensures.value);
    }) c.requires.inside c.if-room-lt16.false (sym c.is_supported.ensures ∙ c.if-not-is_supported.true)

pub returns : goal.returns
returns c =
    sll_prospect c.args.known.now (256 * c.byte_or.result + c.byte_or-2.result) c.byte_or-high.result
    c.supported_low.result (256 * c.byte_or-high.result + c.byte_or-3.result) c.args.room c.type_after_capture.result
    (record {
      ok = λ i. omega (arith, c.type_inv.known i);
      few = c.requires.few;
      packet_is = omega (arith, c.byte_or.ensures.value, c.byte_or-2.ensures.value);
      high_is = c.byte_or-high.ensures.value;
      low_is = record { three = c.supported_low.ensures.three; other = c.supported_low.ensures.other };
      hardware_is = omega (arith, c.byte_or-3.ensures.value);
    }) c.requires.inside c.if-room-lt16.false c.if-packet_type-gt7.false
    (sym c.is_supported.ensures ∙ c.if-not-is_supported.false)
    (record { ethernet = c.type_after_capture.ensures.ethernet; other = c.type_after_capture.ensures.other })
