-- The line that is being read.
use Rattle.std.specs.Prelude.{◌≡◌, ℕ, ◌+◌, ◌<◌, List, length, true, false}
use Rattle.std.specs.Str.Lines.{strip_carriage_return}
use Rattle.ether_text.specs.Tool.Frame.{max_line_digits}
use Rattle.ether_text.specs.declared.tool.line_buffer.LineBuffer.{LineBuffer}
use Rattle.ether_text.specs.declared.tool.line_buffer.LineEnd.{LineEnd}
use Rattle.ether_text.specs.declared.tool.line_buffer.LineEnd.TheVariants.{LineFeed, InputEnd}

-- the buffer keeps the bytes of the line, or only that there are more than the digits of the longest frame and a CR
pub record KeepsLine (buffer : LineBuffer) (line : List ℕ) : Type 0 where
  pub short : buffer.is_long ≡ false → buffer.bytes.items ≡ line
  pub long : buffer.is_long ≡ true → max_line_digits + 1 < length line

-- a line without its end: if an LF ended it, one CR at its end is not part of it
abbrev pub without_end : LineEnd → List ℕ → List ℕ
without_end LineFeed line = strip_carriage_return line
without_end InputEnd line = line
