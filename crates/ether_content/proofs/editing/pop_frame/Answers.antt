use Rattle.std.proofs.Common.{ℕ, Some, length, sym, ap, subst, ◌∙◌, ◌+◌, ◌-◌, ◌≤◌, arith}
use Rattle.std.specs.Prelude.{slice_range}
use borrow.Rule.Slice.PartMut.{put_mid}
use Rattle.ether_base.proofs.SubLists.{length-part}
use Rattle.etherparse.specs.Vlan.{vlan_view}
use Rattle.ether_peel.specs.Walker.Start.{next_of}
use Rattle.ether_pcap.specs.CaptureViews.{captured_packet_view}
use Rattle.ether_content.specs.Editing.{PopVlan, Edits, pops}
use Rattle.ether_content.proofs.EditingLemmas.{pop_done, pop_refused, frame_front, put_len}
use Rattle.ether_content.proofs.editing.pop_frame.Goals as goal

pub returns-in-Ok-clause-edits : goal.returns-in-Ok-clause-edits
returns-in-Ok-clause-edits c =
    let p = captured_packet_view c.args.packet.now in
    let frame = c.args.frame.now in
    let after = put_mid 4 (4 + length frame - 4) c.put_between.new.buffer c.pop_vlan.new.frame in
    let done =
    pop_done p c.args.start frame c.put_between.new.buffer c.pop_vlan.new.frame
    (vlan_view c.in-Ok.field-0) (λ i. omega (arith, c.type_inv.frame i)) c.requires.frame
    (omega (arith, c.requires.room, c.put_between.ensures.len)) c.put_between.ensures.bytes c.pop_vlan.auto.frame
    c.in-Ok.ensures.ok in
    let len = c.saturating_sub.ensures ∙ ap (λ (k : ℕ). k - 4) c.from.ensures in
    subst
    (λ (k : ℕ).
    Edits PopVlan p
    (Some (record { original_len = k; packet = slice_range after 8 (4 + length p.packet) })))
    (sym len)
    (pops p (record { original_len = p.original_len - 4; packet = slice_range after 8 (4 + length p.packet) })
    done.pops)

pub returns-in-Ok-clause-within : goal.returns-in-Ok-clause-within
returns-in-Ok-clause-within c =
    let p = captured_packet_view c.args.packet.now in
    let frame = c.args.frame.now in
    let buffer = c.put_between.new.buffer in
    let front = frame_front p (next_of c.args.start) frame c.requires.frame in
    let room : 4 + length p.packet ≤ length buffer = omega (arith, c.requires.room, c.put_between.ensures.len) in
    let done =
    pop_done p c.args.start frame buffer c.pop_vlan.new.frame (vlan_view c.in-Ok.field-0)
    (λ i. omega (arith, c.type_inv.frame i)) c.requires.frame room c.put_between.ensures.bytes
    c.pop_vlan.auto.frame c.in-Ok.ensures.ok in
    let part = length-part buffer 4 (4 + length frame) (omega (arith, front.0, room)) in
    let len =
    put_len 4 (4 + length frame - 4) buffer c.pop_vlan.new.frame (omega (arith, front.0, room))
    (c.pop_vlan.auto.frame ∙ part) in
    (done.least, omega (arith, len, room))

pub returns-in-Err-clause-edits : goal.returns-in-Err-clause-edits
returns-in-Err-clause-edits c =
    pop_refused (captured_packet_view c.args.packet.now) c.args.start c.args.frame.now c.put_between.new.buffer
    c.in-Err.field-0 (λ i. omega (arith, c.type_inv.frame i)) c.requires.frame c.put_between.ensures.bytes
    c.in-Err.ensures.refused
