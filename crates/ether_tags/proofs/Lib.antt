pub mod MacsecFields
pub mod SameValues
pub mod SameHeaders
mod SameParts
