use Rattle.std.proofs.Common.{ℕ, ap, sym, subst, Some}
use Rattle.ether_pcap.specs.Capture.{Begins, BlockKind, Blocks, IsBody, RefusesBody, block, block_refused, body_refused, kind_of_block}
use Rattle.ether_pcap.specs.CaptureViews.{captured_packet_view, capture_refusal_view, interfaces_view}
use Rattle.ether_pcap.specs.PcapngViews.{block_refusal_view, block_view}
use Rattle.ether_pcap.specs.Section.{HasSectionType}
use Rattle.ether_pcap.specs.Views.{order_of}
use Rattle.ether_pcap.proofs.capture.capture_blocks.read_enhanced_packet.Goals as goal

pub returns-in-Err-clause-refused : goal.returns-in-Err-clause-refused
returns-in-Err-clause-refused g c most =
    let other : HasSectionType c.args.bytes.now → ⊥ = λ has. let t = c.if-begins_section.ensures.1 has in absurd cc in
    block_refused most (order_of c.args.byte_order) _ (block_refusal_view c.in-Err.error) other c.in-Err.ensures.refused

pub returns-in-Ok-enhanced_packet-clause-packet : goal.returns-in-Ok-enhanced_packet-clause-packet
returns-in-Ok-enhanced_packet-clause-packet g c most =
    let order = order_of c.args.byte_order in
    let interfaces = interfaces_view (g.I.DescribedInterfaces.items c.args.interfaces.now) in
    let b = block_view c.in-Ok.block in
    let p = Some (captured_packet_view c.in-Ok-enhanced_packet.packet) in
    let other : HasSectionType c.args.bytes.now → ⊥ = λ has. let t = c.if-begins_section.ensures.1 has in absurd cc in
    let is = subst (λ (kind : BlockKind). IsBody kind most order interfaces b.body p interfaces)
    (sym (ap kind_of_block c.in-6.is)) (c.in-Ok-enhanced_packet.ensures.packet most) in
    subst (λ (n : ℕ). Begins c.args.bytes.now (Blocks most order interfaces) n p (Blocks most order interfaces))
    (sym c.block_len.ensures) (block most order interfaces interfaces p b other c.in-Ok.ensures.block is)

pub returns-in-Err-enhanced_packet-clause-refused : goal.returns-in-Err-enhanced_packet-clause-refused
returns-in-Err-enhanced_packet-clause-refused g c most =
    let order = order_of c.args.byte_order in
    let interfaces = interfaces_view (g.I.DescribedInterfaces.items c.args.interfaces.now) in
    let b = block_view c.in-Ok.block in
    let r = capture_refusal_view c.in-Err-enhanced_packet.error in
    let other : HasSectionType c.args.bytes.now → ⊥ = λ has. let t = c.if-begins_section.ensures.1 has in absurd cc in
    body_refused most order interfaces b r other c.in-Ok.ensures.block
    (subst (λ (kind : BlockKind). RefusesBody most order interfaces b.body kind r)
    (sym (ap kind_of_block c.in-6.is)) (c.in-Err-enhanced_packet.ensures.refused most))
