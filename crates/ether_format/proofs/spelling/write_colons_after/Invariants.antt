use Rattle.std.proofs.Common.{◌++◌, codes, false}
use Rattle.ether_base.specs.Texts.NumberText.{hex_byte}
use Rattle.ether_format.proofs.ListLemmas.{WritesFirst}
use Rattle.ether_format.proofs.spelling.write_colons_after.Given as goal

abbrev pub invariant-loop-byte : goal.invariant-loop-byte
invariant-loop-byte g l =
    WritesFirst g.W.Sink.contents g.W.Sink.can_fail
    (λ b. codes ":" ++ hex_byte false b) l.bytes l.byte-index l.fn.out l.out
