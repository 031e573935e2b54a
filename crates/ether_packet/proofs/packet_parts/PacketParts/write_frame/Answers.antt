use Rattle.std.proofs.Common.{ℕ, sym, subst, arith}
use Rattle.ether_packet.specs.Frames.{frame_size, IsWholeFrame, IsChangedFrame}
use Rattle.ether_packet.proofs.Frames.{counted_is, frames_go_back, changed_frames_are_read}
use Rattle.ether_packet.proofs.packet_parts.PacketParts.write_frame.Goals as goal

pub returns-clause-whole : goal.returns-clause-whole
returns-clause-whole c =
    let p = c.args.self.now in
    let new = c.write_whole.new.target in
    subst (λ (n : ℕ). IsWholeFrame p n new)
    (sym (counted_is p _ c.frame_len-required_len.ensures
    (let room = c.type_inv.target in let fits = c.if-len-required_len.false in omega arith)))
    (frames_go_back p (frame_size p) c.args.target.now new c.write_whole.ensures)

pub returns-clause-changed : goal.returns-clause-changed
returns-clause-changed c =
    let p = c.args.self.now in
    let new = c.write_whole.new.target in
    subst (λ (n : ℕ). IsChangedFrame p n new)
    (sym (counted_is p _ c.frame_len-required_len.ensures
    (let room = c.type_inv.target in let fits = c.if-len-required_len.false in omega arith)))
    (changed_frames_are_read p (frame_size p) c.args.target.now new c.write_whole.ensures)
