-- Why a header can't be read from a slice, for contents of any format.
use Rattle.std.specs.Prelude.{ℕ, ◌+◌, ◌<◌, ◌^◌, List, Option, Some}
use Rattle.ether_base.specs.declared.header_slice_error.HeaderSliceError.{HeaderSliceError}
use Rattle.ether_base.specs.declared.header_slice_error.HeaderSliceError.TheVariants.{Len, Content}
use Rattle.ether_base.specs.Texts.LengthErrors.{len_error_text}

-- the text of the length error or of the content error
abbrev pub header_slice_error_text : {E : Type 0} → (E → Option (List ℕ)) → HeaderSliceError E → Option (List ℕ)
header_slice_error_text content_text (Len error) = Some (len_error_text error)
header_slice_error_text content_text (Content error) = content_text error

-- the start of a length error still fits in 64 bits after the move; a content error has no start
abbrev pub FitsMoved : {E : Type 0} → ℕ → HeaderSliceError E → Type 0
FitsMoved offset (Len error) = error.layer_start_offset + offset < 2 ^ 64
FitsMoved offset (Content error) = Unit {0}

-- the error of a header that starts `offset` bytes later
abbrev pub moved : {E : Type 0} → ℕ → HeaderSliceError E → HeaderSliceError E
moved offset (Len error) = Len (record error { layer_start_offset = error.layer_start_offset + offset })
moved offset (Content error) = Content error
