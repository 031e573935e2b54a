pub mod Content
pub mod ContentViews
pub mod Selecting
pub mod Editing
pub mod EditingViews
pub mod Headers
pub mod Texts
