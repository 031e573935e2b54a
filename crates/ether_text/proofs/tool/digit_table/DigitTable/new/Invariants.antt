use Rattle.std.proofs.Common.{◌≡◌, ℕ, ◌<◌, slice_index}
use Rattle.ether_text.specs.Tool.DigitTable.{entry_of}
use Rattle.ether_text.proofs.tool.digit_table.DigitTable.new.Given as goal

abbrev pub invariant-loop-character : goal.invariant-loop-character
invariant-loop-character l = (k : ℕ) → k < l.character → slice_index l.value-items k ≡ entry_of k
