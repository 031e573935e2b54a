-- A header of a packet by its window, and all headers that were read of a frame.
use Rattle.std.specs.Prelude.{ℕ, List}
use Rattle.etherparse.specs.Kind.{Kind}

-- its kind, its offset, and the bytes of the window in which it was read
pub record PacketUnit : Type 0 where
  pub kind : Kind
  pub offset : ℕ
  pub bytes : List ℕ

-- the frame, and its headers in order
pub record Read : Type 0 where
  pub frame : List ℕ
  pub units : List PacketUnit
