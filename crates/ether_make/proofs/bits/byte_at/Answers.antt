use Rattle.ether_make.proofs.BitLemmas.{packed-eight, bool_byte-bit}
use Rattle.ether_make.proofs.bits.byte_at.Goals as goal

pub returns : goal.returns
returns c =
    rw (
      c.from.ensures,
      c.from-2.ensures,
      c.from-3.ensures,
      c.from-4.ensures,
      c.from-5.ensures,
      c.from-6.ensures,
      c.from-7.ensures,
      c.from-8.ensures,
    )
    (simp bool_byte-bit (packed-eight c.args.bits.now c.args.at c.requires))
