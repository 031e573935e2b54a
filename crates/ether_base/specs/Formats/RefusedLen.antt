-- A length error as the row of the table that holds.
use Rattle.std.specs.Prelude.{◌≡◌, ℕ, List}
use Rattle.ether_base.specs.declared.header_slice_error.HeaderSliceError.{HeaderSliceError}
use Rattle.ether_base.specs.declared.header_slice_error.HeaderSliceError.TheVariants.{Len, Content}
use Rattle.ether_base.specs.declared.len_source.LenSource.TheVariants as sources
use Rattle.ether_base.specs.declared.err.len_error.LenError.{LenError}
use Rattle.ether_base.specs.Formats.Kind.{Kind}
use Rattle.ether_base.specs.Formats.Refusal.{Length, Refuses}

-- A slice is refused as a unit of a kind: all five fields of the error, which counts from the slice's start.
pub record IsRefusedLen (bytes : List ℕ) (kind : Kind) (e : LenError) : Type 0 where
  pub row : Refuses sources.Slice bytes kind (Length e.required_len e.len e.len_source e.layer)
  pub start : e.layer_start_offset ≡ 0

-- `holds` is true of a length error; nothing is claimed of other errors
abbrev pub OnLen : {C : Type 0} → HeaderSliceError C → (LenError → Type 0) → Type 0
OnLen (Len e) holds = holds e
OnLen (Content c) holds = Unit {0}
