use Rattle.std.proofs.Common.{ℕ, Some, length, sym, subst, ◌∙◌, ◌+◌, ◌-◌, ◌≤◌, arith}
use Rattle.std.specs.Prelude.{slice_range}
use borrow.Rule.Slice.PartMut.{put_mid}
use Rattle.ether_base.proofs.SubLists.{length-part}
use Rattle.ether_peel.specs.Walker.Start.{next_of}
use Rattle.ether_pcap.specs.CaptureViews.{captured_packet_view}
use Rattle.ether_content.specs.Editing.{SetVlan, Edits, sets}
use Rattle.ether_content.proofs.EditingLemmas.{frame_front, put_len}
use Rattle.ether_content.proofs.SettingLemmas.{set_done, set_refused}
use Rattle.ether_content.proofs.editing.set_in_frame.Goals as goal

pub returns-in-Some-clause-edits : goal.returns-in-Some-clause-edits
returns-in-Some-clause-edits c =
    let p = captured_packet_view c.args.packet.now in
    let frame = c.args.frame.now in
    let after = put_mid 4 (4 + length frame - 4) c.put_between.new.buffer c.replace_vlan_id.new.frame in
    let done =
    set_done p c.args.start frame c.put_between.new.buffer c.replace_vlan_id.new.frame c.args.from c.args.to
    c.in-Some.field-0 (λ i. omega (arith, c.type_inv.frame i)) c.requires.frame
    (omega (arith, c.requires.room, c.put_between.ensures.len)) c.put_between.ensures.bytes
    c.replace_vlan_id.auto.frame c.in-Some.ensures.some in
    subst
    (λ (k : ℕ).
    Edits (SetVlan c.args.from c.args.to) p
    (Some (record { original_len = k; packet = slice_range after 4 (4 + length p.packet) })))
    (sym c.from.ensures)
    (sets p c.args.from c.args.to
    (record { original_len = p.original_len; packet = slice_range after 4 (4 + length p.packet) }) done)

pub returns-in-Some-clause-within : goal.returns-in-Some-clause-within
returns-in-Some-clause-within c =
    let p = captured_packet_view c.args.packet.now in
    let frame = c.args.frame.now in
    let buffer = c.put_between.new.buffer in
    let front = frame_front p (next_of c.args.start) frame c.requires.frame in
    let room : 4 + length p.packet ≤ length buffer = omega (arith, c.requires.room, c.put_between.ensures.len) in
    let part = length-part buffer 4 (4 + length frame) (omega (arith, front.0, room)) in
    let len =
    put_len 4 (4 + length frame - 4) buffer c.replace_vlan_id.new.frame (omega (arith, front.0, room))
    (c.replace_vlan_id.auto.frame ∙ part) in
    (omega arith, omega (arith, len, room))

pub returns-in-None-clause-edits : goal.returns-in-None-clause-edits
returns-in-None-clause-edits c =
    set_refused (captured_packet_view c.args.packet.now) c.args.start c.args.frame.now c.put_between.new.buffer
    c.args.from c.args.to (λ i. omega (arith, c.type_inv.frame i)) c.requires.frame c.put_between.ensures.bytes
    c.in-None.ensures.none
