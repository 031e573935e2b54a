-- The bytes in a buffer.
use Rattle.std.specs.Prelude.{ℕ, List, length, slice_range}
use Rattle.ether_stream.specs.declared.memory.Grow.{Ghosts}
use Rattle.ether_stream.specs.declared.input_buffer.InputBuffer.{InputBuffer}

module _ {B : Type 0} {g : Ghosts B} where
  abbrev pub items : InputBuffer B g → List ℕ
  items b = slice_range (g.items b.memory) b.start b.end

  -- how many bytes there is memory for
  abbrev pub room : InputBuffer B g → ℕ
  room b = length (g.items b.memory)
