use Rattle.std.proofs.Common.{◌∙◌, sym}
use Rattle.ether_filter.specs.Primitives.{frame_of}
use Rattle.ether_filter.proofs.Numbered.{capture_below, capture_from}
use Rattle.ether_filter.proofs.matching.matches_capture.Goals as goal

pub returns-then-instruction-ge-FRAME_KINDS : goal.returns-then-instruction-ge-FRAME_KINDS
returns-then-instruction-ge-FRAME_KINDS c =
    c.matches_frame_test.ensures
    ∙ sym (capture_from c.args.instruction.now (frame_of c.args.packet.now) c.if-instruction-ge-FRAME_KINDS.true)

pub returns : goal.returns
returns c =
    c.matches_lengths.ensures
    ∙ sym (capture_below c.args.instruction.now (frame_of c.args.packet.now) c.if-instruction-ge-FRAME_KINDS.false)
