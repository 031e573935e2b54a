use Rattle.std.proofs.Common.{◌++◌, codes}
use Rattle.std.specs.Fmt.{decimal}
use Rattle.ether_format.proofs.ListLemmas.{WritesFirst}
use Rattle.ether_format.proofs.spelling.write_dots_after.Given as goal

abbrev pub invariant-loop-byte : goal.invariant-loop-byte
invariant-loop-byte g l =
    WritesFirst g.W.Sink.contents g.W.Sink.can_fail (λ b. codes "." ++ decimal b) l.bytes l.byte-index l.fn.out l.out
