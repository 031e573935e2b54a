pub mod ColumnLemmas
pub mod NumberLemmas
pub mod BitNumbers
pub mod FieldValues
