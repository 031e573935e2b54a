use Rattle.std.proofs.Common.{Some, sym, subst, arith}
use Rattle.ether_pcap.specs.CaptureViews.{captured_packet_view}
use Rattle.ether_content.specs.Editing.{CutToHeaders, Edits, cuts, not_cut}
use Rattle.ether_content.proofs.editing.cut_to_headers.Goals as goal

pub returns-then-packet-len-clause-edits : goal.returns-then-packet-len-clause-edits
returns-then-packet-len-clause-edits c =
    not_cut (captured_packet_view c.args.packet.now) c.headers_len-len.result c.headers_len-len.ensures
    c.if-packet-len.true

pub returns-clause-edits : goal.returns-clause-edits
returns-clause-edits c =
    let p = captured_packet_view c.args.packet.now in
    let n = c.headers_len-len.result in
    let len = c.from.ensures in
    let bytes = c.put_between.ensures.bytes in
    subst (Edits CutToHeaders p)
    (λ i. Some (record { original_len = sym len i; packet = sym bytes i }))
    (cuts p n c.headers_len-len.ensures (omega (arith, c.if-packet-len.false)))
