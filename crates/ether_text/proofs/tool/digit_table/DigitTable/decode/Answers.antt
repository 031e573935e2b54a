use Rattle.std.proofs.Common.{◌≡◌, ◌*◌, ◌+◌, ◌<◌, ◌≢◌, length, length-drop, drop-drop, slice_index, slice_index_or, is_some, true, ap, refl, ◌∙◌, arith, below_more, get_or-set_other, get_or-set_same, drop, ℕ, List}
use Rattle.hex.specs.Hex.{hex_digit_value}
use Rattle.ether_text.specs.Tool.DigitTable.{entry_of}
use Rattle.ether_text.proofs.tool.DigitTableLemmas.{byte_named, is_digit, mark_of, no_mark, no_marks, pair_at, two_more}
use Rattle.ether_text.proofs.tool.digit_table.DigitTable.decode.Goals as goal

pub split_at-requires : goal.split_at-requires
split_at-requires c =
    let len = ap length c.loop-byte.invariant.rest ∙ length-drop (2 * c.loop-byte.byte-index) c.args.line.now in
    omega (arith, len, c.loop-byte-test.true)

pub loop-byte-preserved : goal.loop-byte-preserved
loop-byte-preserved c =
    let i = c.loop-byte.byte-index in
    let first = slice_index c.args.line.now (2 * i) in
    let second = slice_index c.args.line.now (2 * i + 1) in
    let high = slice_index_or c.self.inside.entries c.from.result 0 in
    let low = slice_index_or c.self.inside.entries c.from-in-loop-byte.result 0 in
    let first_is : c.from.result ≡ first =
    c.from.ensures ∙ ap (λ (l : List ℕ). slice_index l 0) c.split_at.ensures.front
    ∙ pair_at (2 * i) 0 (2 * i) c.args.line.now c.loop-byte.rest.now c.loop-byte.invariant.rest (omega arith)
    (omega arith) in
    let second_is : c.from-in-loop-byte.result ≡ second =
    c.from-in-loop-byte.ensures ∙ ap (λ (l : List ℕ). slice_index l 1) c.split_at.ensures.front
    ∙ pair_at (2 * i) 1 (2 * i + 1) c.args.line.now c.loop-byte.rest.now c.loop-byte.invariant.rest
    (omega arith) refl in
    let high_is : high ≡ entry_of first =
    c.self.invariant c.from.result (omega (arith, first_is, c.type_inv.line (2 * i))) ∙ ap entry_of first_is in
    let low_is : low ≡ entry_of second =
    c.self.invariant c.from-in-loop-byte.result (omega (arith, second_is, c.type_inv.line (2 * i + 1)))
    ∙ ap entry_of second_is in
    let next : 2 * i + 2 ≡ 2 * (i + 1) = omega arith in
    record {
      rest = c.split_at.ensures.back ∙ ap (drop 2) c.loop-byte.invariant.rest ∙ drop-drop 2 (2 * i) c.args.line.now
          ∙ ap (λ (n : ℕ). drop n c.args.line.now) next;
      digits = λ clean.
          let each = mark_of c.loop-byte.marks high low clean in
          two_more (λ k. is_some (hex_digit_value (slice_index c.args.line.now k)) ≡ true) i
          (c.loop-byte.invariant.digits each.0)
          (is_digit first high high_is each.1) (is_digit second low low_is each.2);
      marks = λ all.
          no_marks c.loop-byte.marks high low (c.loop-byte.invariant.marks (λ k lt. all k (omega arith)))
          (no_mark first high high_is (all (2 * i) (omega arith)))
          (no_mark second low low_is (all (2 * i + 1) (omega arith)));
      bytes = λ clean.
          let each = mark_of c.loop-byte.marks high low clean in
          below_more _ _
          (λ k lt. let other : k ≢ i = omega arith in rw get_or-set_other (c.loop-byte.invariant.bytes each.0 k lt))
          (let within : i < length c.loop-byte.out = omega arith in
          rw get_or-set_same (byte_named first second high low _ high_is low_is each.1 each.2 refl));
    }
