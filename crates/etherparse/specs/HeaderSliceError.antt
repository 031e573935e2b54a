-- Why a header can't be read from a slice, with a content error of any format: the error type, its text, and its move
-- by an offset.
pub use Rattle.ether_base.specs.declared.header_slice_error.HeaderSliceError.{HeaderSliceError}
pub use Rattle.ether_base.specs.declared.header_slice_error.HeaderSliceError.TheVariants.{Len, Content}
pub use Rattle.ether_base.specs.Texts.HeaderSliceError.{header_slice_error_text, FitsMoved, moved}
