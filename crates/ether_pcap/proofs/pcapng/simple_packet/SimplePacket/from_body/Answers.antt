use Rattle.std.proofs.Common.{◌≡◌, sym, ap, ◌∙◌}
use Rattle.ether_pcap.specs.Numbers.{field}
use Rattle.ether_pcap.specs.Views.{order_of}
use Rattle.ether_pcap.specs.Bodies.{simple_too_long, simple_packet, captured_by}
use Rattle.ether_pcap.proofs.pcapng.simple_packet.SimplePacket.from_body.Goals as goal

pub returns-then-captured_len-gt-MAX_CAPTURED_LEN-clause-refused :
    goal.returns-then-captured_len-gt-MAX_CAPTURED_LEN-clause-refused
returns-then-captured_len-gt-MAX_CAPTURED_LEN-clause-refused c =
    let n = c.captured_len-captured_len.result in
    let e : captured_by c.args.snap_len (field (order_of c.args.byte_order) c.args.body.now 0 4) ≡ n =
    sym (c.captured_len-captured_len.ensures ∙ ap (captured_by c.args.snap_len) c.u32_at-original_len.ensures) in
    simple_too_long n c.if-body-lt4.false e c.if-captured_len-gt-MAX_CAPTURED_LEN.true

pub returns-then-body-end-clause-refused : goal.returns-then-body-end-clause-refused
returns-then-body-end-clause-refused c =
    let n = c.captured_len-captured_len.result in
    let e : captured_by c.args.snap_len (field (order_of c.args.byte_order) c.args.body.now 0 4) ≡ n =
    sym (c.captured_len-captured_len.ensures ∙ ap (captured_by c.args.snap_len) c.u32_at-original_len.ensures) in
    simple_packet n c.if-body-lt4.false e c.if-captured_len-gt-MAX_CAPTURED_LEN.false c.if-body-end.true
