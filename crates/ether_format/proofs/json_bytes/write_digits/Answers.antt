use Rattle.std.proofs.Common.{false}
use Rattle.ether_base.specs.Texts.NumberText.{hex_byte}
use Rattle.ether_output.specs.HexText.{hex_text}
use Rattle.ether_output.proofs.OutputBufferLemmas.{Takes-same}
use Rattle.ether_format.proofs.ListLemmas.{first_none, first_next, first_all}
use Rattle.ether_format.proofs.json_bytes.write_digits.Goals as goal

pub loop-byte-init : goal.loop-byte-init
loop-byte-init g c = first_none g.W.Sink.contents g.W.Sink.can_fail (hex_byte false) c.args.bytes.now c.args.out.now

pub loop-byte-preserved : goal.loop-byte-preserved
loop-byte-preserved g c =
    first_next g.W.Sink.contents g.W.Sink.can_fail (hex_byte false) c.args.bytes.now c.loop-byte.byte-index 0
    c.args.out.now
    c.loop-byte.out
    c.append_array.new.self c.loop-byte-test.true c.loop-byte.invariant
    (Takes-same c.digit_pair.ensures c.append_array.ensures)

pub returns : goal.returns
unfolding hex_text
returns g c =
    first_all g.W.Sink.contents g.W.Sink.can_fail (hex_byte false) c.args.bytes.now c.loop-byte.byte-index
    c.args.out.now
    c.loop-byte.out
    c.loop-byte-test.false c.loop-byte.invariant
