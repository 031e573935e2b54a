use Rattle.std.proofs.Common.{◌≡◌, ◌∙◌, ap, length, arith}
use Rattle.ether_make.specs.Captures.{captured}
use Rattle.ether_make.specs.FrameViews.{frame_view}
use Rattle.ether_make.proofs.CaptureLemmas.{record-part}
use Rattle.ether_make.proofs.capture.write_record.Goals as goal

pub returns : goal.returns
returns g c =
    λ fit.
    let frame = c.args.frame.now in
    let len : c.min.result ≡ length frame.bytes.items = omega (arith, c.min.ensures, c.len.ensures, fit) in
    record-part (frame_view frame) c.min.result c.header_to_bytes.result c.captured-packet.result.now _ _ _ len
    (c.captured-packet.ensures ∙ ap captured c.as_slice.ensures.value) c.header_to_bytes.ensures.len
    c.header_to_bytes.ensures.value c.in_ok-write_all.ensures.bytes
    c.in_ok-write_all-2.ensures.bytes
