use Rattle.std.proofs.Common.{ℕ, Some, ◌++◌, length, drop, length-append, length-drop, sym, subst, ◌∙◌, ◌+◌, ◌≤◌, arith}
use Rattle.std.specs.Prelude.{slice_range}
use Rattle.std.proofs.lemmas.List.{length-take-le}
use Rattle.ether_peel.specs.Walker.Start.{next_of}
use Rattle.ether_pcap.specs.CaptureViews.{captured_packet_view}
use Rattle.ether_content.specs.Editing.{PushVlan, Edits, pushes}
use Rattle.ether_content.proofs.EditingLemmas.{push_done, push_refused, frame_front}
use Rattle.ether_content.proofs.editing.push_frame.Goals as goal

pub returns-in-Ok-clause-edits : goal.returns-in-Ok-clause-edits
returns-in-Ok-clause-edits c =
    let p = captured_packet_view c.args.packet.now in
    let frame = c.args.frame.now in
    let second = c.put_between-2 in
    let after = c.push_vlan.new.buffer ++ drop (4 + length frame) second.new.buffer in
    let free = second.ensures.before ∙ c.put_between.ensures.bytes in
    let done =
    push_done p c.args.start frame second.new.buffer c.push_vlan.new.buffer c.args.tpid.0 c.args.vlan_id
    (λ i. omega (arith, c.type_inv.frame i)) c.requires.frame
    (omega (arith, c.requires.room, c.put_between.ensures.len, second.ensures.len)) free second.ensures.bytes
    c.push_vlan.auto.buffer c.in-Ok.ensures.ok in
    let len = c.from.ensures in
    subst
    (λ (k : ℕ).
    Edits (PushVlan c.args.tpid.0 c.args.vlan_id) p
    (Some (record { original_len = k + 4; packet = slice_range after 0 (4 + length p.packet) })))
    (sym len)
    (pushes p c.args.tpid.0 c.args.vlan_id
    (record { original_len = p.original_len + 4; packet = slice_range after 0 (4 + length p.packet) }) done.pushes)

pub returns-in-Ok-clause-within : goal.returns-in-Ok-clause-within
returns-in-Ok-clause-within c =
    let p = captured_packet_view c.args.packet.now in
    let frame = c.args.frame.now in
    let second = c.put_between-2 in
    let buffer = second.new.buffer in
    let front = frame_front p (next_of c.args.start) frame c.requires.frame in
    let room : 4 + length p.packet ≤ length buffer =
    omega (arith, c.requires.room, c.put_between.ensures.len, second.ensures.len) in
    let part = length-take-le (4 + length frame) buffer (omega (arith, front.0, room)) in
    let rest = length-drop (4 + length frame) buffer in
    let len = length-append c.push_vlan.new.buffer (drop (4 + length frame) buffer) in
    (omega arith, omega (arith, len, rest, c.push_vlan.auto.buffer, part, front.0, room))

pub returns-in-Err-clause-edits : goal.returns-in-Err-clause-edits
returns-in-Err-clause-edits c =
    let second = c.put_between-2 in
    push_refused (captured_packet_view c.args.packet.now) c.args.start c.args.frame.now second.new.buffer c.args.tpid.0
    c.args.vlan_id c.in-Err.field-0 (λ i. omega (arith, c.type_inv.frame i)) c.requires.frame
    (second.ensures.before ∙ c.put_between.ensures.bytes) second.ensures.bytes c.in-Err.ensures.refused
