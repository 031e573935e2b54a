use Rattle.std.proofs.Common.{◌≡◌, ℕ, ◌+◌, ◌*◌, ◌<◌, drop, slice_index, is_some, true}
use Rattle.hex.specs.Hex.{hex_digit_value}
use Rattle.ether_text.specs.Tool.Frame.{NameByte}
use Rattle.ether_text.proofs.tool.digit_table.DigitTable.decode.Given as goal

abbrev pub invariant-loop-byte : goal.invariant-loop-byte
invariant-loop-byte l = record {
  rest : l.rest ≡ drop (2 * l.byte-index) l.line;
  digits : l.marks < 128 → (k : ℕ) → k < 2 * l.byte-index → is_some (hex_digit_value (slice_index l.line k)) ≡ true;
  marks : ((k : ℕ) → k < 2 * l.byte-index → is_some (hex_digit_value (slice_index l.line k)) ≡ true) → l.marks < 128;
  bytes : l.marks < 128 → (k : ℕ) → k < l.byte-index
      → NameByte (slice_index l.line (2 * k)) (slice_index l.line (2 * k + 1)) (slice_index l.out k);
}
