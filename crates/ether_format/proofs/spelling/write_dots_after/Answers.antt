use Rattle.std.proofs.Common.{ℕ, ◌++◌, codes, List, ap}
use Rattle.std.specs.Fmt.{decimal}
use Rattle.ether_output.proofs.OutputBufferLemmas.{Takes-then, Takes-same}
use Rattle.ether_format.proofs.ListLemmas.{first_none, first_next, first_all}
use Rattle.ether_format.proofs.spelling.write_dots_after.Goals as goal

abbrev text : ℕ → List ℕ
text b = codes "." ++ decimal b

pub loop-byte-init : goal.loop-byte-init
loop-byte-init g c = first_none g.W.Sink.contents g.W.Sink.can_fail text c.args.bytes.now c.args.out.now

pub loop-byte-preserved : goal.loop-byte-preserved
loop-byte-preserved g c =
    first_next g.W.Sink.contents g.W.Sink.can_fail text c.args.bytes.now c.loop-byte.byte-index 0 c.args.out.now
    c.loop-byte.out
    c.write_decimal.new.out c.loop-byte-test.true c.loop-byte.invariant
    (Takes-then c.append.ensures (Takes-same (ap decimal c.from.ensures) c.write_decimal.ensures))

pub returns : goal.returns
returns g c =
    first_all g.W.Sink.contents g.W.Sink.can_fail text c.args.bytes.now c.loop-byte.byte-index c.args.out.now
    c.loop-byte.out
    c.loop-byte-test.false c.loop-byte.invariant
