use Rattle.std.proofs.Common.{arith, ap, ◌∙◌, ◌+◌, ◌*◌, ◌^◌, drop, length}
use Rattle.ether_base.specs.Bytes.{number}
use Rattle.ether_make.proofs.RangeLemmas.{byte-more, eight-bytes, number-more}
use Rattle.ether_make.proofs.range.number.Goals as goal

pub overflow_mul-number : goal.overflow_mul-number
overflow_mul-number c =
    record {
      fits = eight-bytes (c.loop-byte.number * 256) (c.loop-byte.byte-index + 1)
          (omega (
            arith,
            byte-more c.loop-byte.number c.loop-byte.byte-index 0 c.loop-byte.invariant.small
                (omega arith),
          ))
          (omega (arith, c.requires));
    }

pub overflow_add-number : goal.overflow_add-number
overflow_add-number c =
    record {
      fits = eight-bytes (c.loop-byte.number * 256 + c.from.result) (c.loop-byte.byte-index + 1)
          (byte-more c.loop-byte.number c.loop-byte.byte-index c.from.result c.loop-byte.invariant.small
          (rw c.from.ensures ((c.type_inv.bytes c.loop-byte.byte-index).fits)))
          (omega (arith, c.requires));
    }

pub loop-byte-preserved : goal.loop-byte-preserved
loop-byte-preserved c =
    let bytes = c.args.bytes.now in
    let i = c.loop-byte.byte-index in
    let n = c.loop-byte.number in
    record {
      small = byte-more n i c.from.result c.loop-byte.invariant.small (rw c.from.ensures ((c.type_inv.bytes i).fits));
      so_far = ap (λ b. (n * 256 + b) * 256 ^ length (drop (i + 1) bytes) + number (drop (i + 1) bytes)) c.from.ensures
          ∙ number-more bytes n i c.loop-byte-test.true ∙ c.loop-byte.invariant.so_far;
    }
