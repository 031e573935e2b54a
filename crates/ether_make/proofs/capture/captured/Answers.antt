use Rattle.std.proofs.Common.{sym, arith}
use Rattle.std.proofs.lemmas.List.{length-take-le, take_all}
use Rattle.ether_make.proofs.capture.captured.Goals as goal

pub slice_bounds-result-end : goal.slice_bounds-result-end
slice_bounds-result-end c =
    sym (length-take-le 262144 c.args.packet.now (omega (arith, c.if-packet-gt262144.true)))

pub returns : goal.returns
returns c = sym (take_all 262144 c.args.packet.now (omega (arith, c.if-packet-gt262144.false)))
