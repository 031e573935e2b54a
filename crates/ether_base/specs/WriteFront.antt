-- Writing to the front of a slice, and lending the bytes after it to the caller.
use Rattle.std.specs.Prelude.{◌≡◌, ℕ, ◌≤◌, ◌<◌, List, ◌++◌, length, drop, Result, MatchResult}
use Rattle.std.specs.Borrow.{MutBor, Fml, LendsIfOk, Array, u8}
use Rattle.ether_base.specs.declared.err.layer.Layer.{Layer}
use Rattle.ether_base.specs.declared.err.slice_write_space_error.SliceWriteSpaceError.{SliceWriteSpaceError}

-- the bytes after the first `required`, as they were
pub record IsRest (required : ℕ) (slice : List ℕ) (rest : MutBor (List ℕ)) : Type 0 where
  pub room : required ≤ length slice
  pub same : rest.now ≡ drop required slice

-- all four fields of the error, which counts from the slice's start
pub record IsRefusedSpace (required : ℕ) (layer : Layer) (slice : List ℕ) (e : SliceWriteSpaceError) : Type 0 where
  pub short : length slice < required
  pub error : e ≡ record { required_len = required; len = length slice; layer = layer; layer_start_offset = 0 }

-- the rest if the slice has room for `required` bytes of a layer, else the refusal
abbrev pub AnswersRest : ℕ → Layer → List ℕ → Result (MutBor (List ℕ)) SliceWriteSpaceError → Type 0
AnswersRest required layer slice result =
    MatchResult result (IsRest required slice) (IsRefusedSpace required layer slice)

-- Afterwards the slice holds these bytes, and after them what was left in the rest; if it was refused, it is unchanged.
abbrev pub LendsRest : List ℕ → MutBor (List ℕ) → Result (MutBor (List ℕ)) SliceWriteSpaceError → Fml
LendsRest bytes slice result = LendsIfOk (Array u8 0) (Array u8 0) slice result (λ rest. bytes ++ rest) slice.now
