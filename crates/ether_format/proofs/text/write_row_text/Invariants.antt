use Rattle.ether_format.specs.Spelling.{row_byte}
use Rattle.ether_format.proofs.ListLemmas.{WritesFirst}
use Rattle.ether_format.proofs.text.write_row_text.Given as goal

abbrev pub invariant-loop-byte : goal.invariant-loop-byte
invariant-loop-byte g l =
    WritesFirst g.W.Sink.contents g.W.Sink.can_fail row_byte l.text l.byte-index l.fn.out l.out
