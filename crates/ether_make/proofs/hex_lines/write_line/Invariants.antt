use Rattle.std.proofs.Common.{take, false}
use Rattle.std.specs.Io.KnownBytes.{Appends}
use Rattle.std.specs.List.{flat_map}
use Rattle.ether_base.specs.Texts.NumberText.{hex_byte}
use Rattle.ether_make.proofs.hex_lines.write_line.Given as goal

abbrev pub invariant-loop-byte : goal.invariant-loop-byte
invariant-loop-byte g l =
    Appends (g.W.Write.contents l.fn.writer) (g.W.Write.contents l.writer)
    (flat_map (hex_byte false) (take l.byte-index l.bytes))
