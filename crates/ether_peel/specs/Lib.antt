pub mod Grammar
pub mod Walker
