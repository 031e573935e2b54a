use Rattle.std.proofs.Common.{◌≡◌, Bool, ℕ, ◌+◌, List, length, ◌++◌, codes, sym, ap, append_assoc, ◌∙◌, arith}
use Rattle.std.specs.Fmt.{decimal}
use Rattle.ether_pcap.specs.CaptureViews.{captured_packet_view}
use Rattle.ether_output.proofs.OutputBufferLemmas.{Takes-then, Takes-same}
use Rattle.ether_content.specs.Content.{is_unknown}
use Rattle.ether_stream.specs.FrameLines.{packet_line, packet_line_if, mark, time_text}
use Rattle.ether_stream.specs.Packets.{counted}
use Rattle.ether_stream.proofs.frame_lines.write_packet_line.Goals as goal

pub returns : goal.returns
unfolding packet_line
returns g c =
    let p = captured_packet_view c.args.packet.now in
    let n = counted (c.args.count.now + 1) in
    let number : c.saturating_add.result ≡ n = let a = c.saturating_add.ensures in omega (arith, a) in
    let first = Takes-same (ap decimal number) c.write_decimal.ensures in
    let link = Takes-same (ap decimal c.from.ensures) c.write_decimal-2.ensures in
    let cut = Takes-same (ap (λ (b : Bool). mark b (codes " cut")) c.is_cut.ensures) c.write_mark.ensures in
    let skipped =
    Takes-same (ap (λ (b : Bool). mark b (codes " skipped")) (c.is_unknown.ensures ∙ ap is_unknown c.requires))
    c.write_mark-2.ensures in
    let lengths =
    decimal p.link_type
    ++ (codes " captured " ++ (decimal (length p.packet) ++ (codes " original " ++ decimal p.original_len))) in
    let joined = append_assoc (time_text p.time) (codes " link ") lengths in
    let numbers = Takes-then c.write_decimal-3.ensures (Takes-then c.append-3.ensures c.write_decimal-4.ensures) in
    Takes-same (ap (λ (b : Bool). packet_line_if b n p) (sym c.if-is_plain.false))
    (Takes-then
    (Takes-same (ap (λ (l : List ℕ). codes "frame " ++ (decimal n ++ (codes " time " ++ l))) joined)
    (Takes-then c.append.ensures (Takes-then first (Takes-then c.write_time.ensures (Takes-then link
    (Takes-then c.append-2.ensures numbers))))))
    (Takes-then cut (Takes-then skipped c.append-4.ensures)))
