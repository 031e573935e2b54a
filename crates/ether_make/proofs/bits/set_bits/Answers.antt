use Rattle.std.proofs.Common.{◌≡◌, ◌+◌, ◌-◌, ◌*◌, ◌/◌, ◌^◌, zero, ◌<◌, ◌≤◌, length, arith, sym, ◌∙◌, ap, length-set}
use Rattle.ether_make.specs.Bits.{bits_of, with_bits}
use Rattle.ether_make.proofs.BitPlaces.{with-byte, with-none, with-split, bits_of-length}
use Rattle.ether_make.proofs.bits.set_bits.Goals as goal

pub loop-left-preserved : goal.loop-left-preserved
loop-left-preserved c =
    let bytes = c.loop-left.bytes in
    let left = c.loop-left.left in
    let count = c.min-count.result in
    let place = (c.args.at + left - 1) / 8 in
    let inside : place < length bytes = omega (arith, c.loop-left.invariant.same_len, c.requires.0) in
    let less : count ≤ left = omega (arith, c.min-count.ensures) in
    let from : 8 * place + (c.args.at + left - 8 * place - count) ≡ c.args.at + (left - count) =
    omega (arith, c.min-count.ensures) in
    let room : c.args.at + (left - count + count) ≤ length (bits_of bytes) =
    omega (arith, bits_of-length bytes, c.loop-left.invariant.same_len, c.requires.0) in
    let all : left - count + count ≡ left = omega arith in
    let one = with-byte bytes place (c.args.at + left - 8 * place - count) count c.loop-left.more c.byte_with.result
    inside (omega (arith, c.min-count.ensures)) c.byte_with.ensures in
    record {
      inside = omega arith;
      same_len = length-set c.loop-left.bytes ((c.args.at + c.loop-left.left - 1) / 8) c.byte_with.result
          ∙ c.loop-left.invariant.same_len;
      to_do = ap (with_bits c.args.at (left - count) (c.loop-left.more / 2 ^ count))
          (one ∙ ap (λ k. with_bits k count c.loop-left.more (bits_of bytes)) from)
          ∙ with-split c.args.at (left - count) count c.loop-left.more (bits_of bytes) room
          ∙ ap (λ k. with_bits c.args.at k c.loop-left.more (bits_of bytes)) all
          ∙ c.loop-left.invariant.to_do;
    }

pub returns-clause-bits : goal.returns-clause-bits
returns-clause-bits c =
    let none : c.loop-left.left ≡ zero = omega arith in
    sym (with-none c.args.at c.loop-left.more (bits_of c.loop-left.bytes))
    ∙ ap (λ k. with_bits c.args.at k c.loop-left.more (bits_of c.loop-left.bytes)) (sym none)
    ∙ c.loop-left.invariant.to_do
