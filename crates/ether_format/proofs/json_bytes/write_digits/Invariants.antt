use Rattle.std.specs.Prelude.{false}
use Rattle.ether_base.specs.Texts.NumberText.{hex_byte}
use Rattle.ether_format.proofs.ListLemmas.{WritesFirst}
use Rattle.ether_format.proofs.json_bytes.write_digits.Given as goal

abbrev pub invariant-loop-byte : goal.invariant-loop-byte
invariant-loop-byte g l =
    WritesFirst g.W.Sink.contents g.W.Sink.can_fail (hex_byte false) l.bytes l.byte-index l.fn.out l.out
