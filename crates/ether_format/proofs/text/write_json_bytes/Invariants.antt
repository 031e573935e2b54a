use Rattle.ether_format.specs.Spelling.{json_byte}
use Rattle.ether_format.proofs.ListLemmas.{WritesFirst}
use Rattle.ether_format.proofs.text.write_json_bytes.Given as goal

abbrev pub invariant-loop-byte : goal.invariant-loop-byte
invariant-loop-byte g l =
    WritesFirst g.W.Sink.contents g.W.Sink.can_fail (json_byte l.is_utf8) l.text l.byte-index l.fn.out l.out
