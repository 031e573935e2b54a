use Rattle.std.proofs.Common.{◌++◌, ℕ, List, length, ap, subst, ◌∙◌, arith}
use Rattle.std.specs.Prelude.{None}
use Rattle.ether_pcap.specs.Capture.{PacketValue}
use Rattle.ether_format.specs.Texts.{HasText}
use Rattle.ether_c.specs.Calls.{PutsBytes}
use Rattle.ether_c.proofs.formatting.put_line.Goals as goal

pub returns-in-Ok : goal.returns-in-Ok
returns-in-Ok c =
    let answer = c.write_packet-is_accepted.ensures in
    let all = c.waiting.ensures.value ∙ answer.taken.grows.grown c.in-Ok.ensures.ok
    ∙ ap (λ (l : List ℕ). l ++ answer.text) c.new-line.ensures.none_waits in
    record {
      line = answer.text;
      accepted = c.write_packet-is_accepted.result;
      is_line =
          subst (λ (p : PacketValue). HasText c.args.format.now c.args.limit
          (record { file = None; number = c.args.number }) p answer.text
          c.write_packet-is_accepted.result)
          c.to_packet.ensures answer.answers;
      put = λ le. subst (λ (l : List ℕ). PutsBytes l c.args.target.now c.put_bytes.new.target c.put_bytes.result.0
          c.put_bytes.result.1) all c.put_bytes.ensures;
      kept = λ lt. absurd (omega (arith, lt, c.waiting.ensures.fits, ap length all));
    }
