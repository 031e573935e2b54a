use Rattle.std.proofs.Common.{◌≡◌, drop, length}
use Rattle.ether_make.specs.Bits.{bits_of}
use Rattle.ether_make.specs.Templates.{all_drawn, all_filled}
use Rattle.ether_make.proofs.template.fill_all.Given as goal

abbrev pub invariant-loop-slot : goal.invariant-loop-slot
invariant-loop-slot l = record {
  same_len : length l.bytes ≡ length l.fn.bytes;
  to_fill : all_filled l.index l.generator (drop l.slot-index l.slots) (bits_of l.bytes)
      ≡ all_filled l.index l.fn.generator l.slots (bits_of l.fn.bytes);
  to_draw : all_drawn (drop l.slot-index l.slots) l.generator ≡ all_drawn l.slots l.fn.generator;
}
