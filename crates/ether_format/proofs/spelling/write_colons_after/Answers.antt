use Rattle.std.proofs.Common.{ℕ, ◌++◌, codes, false, List}
use Rattle.ether_base.specs.Texts.NumberText.{hex_byte}
use Rattle.ether_output.proofs.OutputBufferLemmas.{Takes-same}
use Rattle.ether_format.proofs.ListLemmas.{first_none, first_next, first_all}
use Rattle.ether_format.proofs.spelling.write_colons_after.Goals as goal

abbrev text : ℕ → List ℕ
text b = codes ":" ++ hex_byte false b

pub loop-byte-init : goal.loop-byte-init
loop-byte-init g c = first_none g.W.Sink.contents g.W.Sink.can_fail text c.args.bytes.now c.args.out.now

pub loop-byte-preserved : goal.loop-byte-preserved
loop-byte-preserved g c =
    first_next g.W.Sink.contents g.W.Sink.can_fail text c.args.bytes.now c.loop-byte.byte-index 0 c.args.out.now
    c.loop-byte.out
    c.append_array.new.self c.loop-byte-test.true c.loop-byte.invariant
    (Takes-same (rw (c.digit_pair-pair.ensures)) c.append_array.ensures)

pub returns : goal.returns
returns g c =
    first_all g.W.Sink.contents g.W.Sink.can_fail text c.args.bytes.now c.loop-byte.byte-index c.args.out.now
    c.loop-byte.out
    c.loop-byte-test.false c.loop-byte.invariant
